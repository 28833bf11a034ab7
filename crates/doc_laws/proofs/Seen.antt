-- What is seen: the longest front that ends with a tag, closed by end tags, spells a document with the tokens seen.
use Rattle.std.proofs.Common.{ℕ, ◌≡◌, Bool, true, false, not, ◌&&◌, ◌||◌, eqb, cond, List, [], ◌∷◌, ◌++◌, Option, Some, None, refl, sym, ap, ◌∙◌, subst, append_assoc, append-nil}
use lib.Utf8.{encode}
use Rattle.gcx_base.specs.Characters.{is_char, is_white, is_start_char, is_part_char}
use Rattle.gcx_model.specs.Document.{tokens}
use Rattle.gcx_model.specs.Tree.{TreeToken, End}
use Rattle.gcx_model.specs.Attributes.{is_text_char, is_value_char, is_quote, is_fresh}
use Rattle.gcx_model.specs.Markup.{is_doc_char, is_literal_char}
use Rattle.gcx_model.specs.Grammar.{Content, nothing, mark, space, char, reference, cdata, comment, bare, instruction, doctype, single, tagged, spelling, has_element, may_open, IsContent, text_run, with_run, nodes, SpellsDocument}
use Rattle.gcx_model.specs.Fronts.{Frames, bottom, frame, IsFrames, frames_spelling, inside, is_inside, text_of, seen_tokens}
use Rattle.gcx_model.specs.Seen.{up_to_tag, ends_in_tag, end_tags, open_ends}
use Rattle.doc_laws.specs.Machine.{Referred, More, Done, Bad, ReferenceRead, MachineMode, Opening, Between, Less, StartName, StartSpace, AttributeName, AttributeSpace, Equals, InValue, InValueReference, ValueEnd, Slash, EndName, EndSpace, Question, Target, TargetMark, InInstruction, DocWord, DocSpace, Doc, DocLiteral, Bang, BangDash, Comment, CommentDash, CommentEnd, CDSectWord, InCDSect, InReference, State, start, begun, on_between, on_tag, on_named, on_ended, on_referred, refer, behind, to_end_name, on_end, on_word, on_mode, steps, step, go_on}
use Rattle.doc_laws.specs.States.{rooted, Fronts}
use Rattle.doc_laws.proofs.Moves.{steps_append, tokens-with_run, closed_tokens}
use Rattle.doc_laws.proofs.Fronts.{some_is, none_some}
use Rattle.doc_laws.proofs.Theorems.{fronts_lead}

-- a step leaves the tokens or puts others behind them
pub record IsAfter (s t : State) : Type 0 where
  pub more : List TreeToken
  pub tokens_are : t.tokens ≡ s.tokens ++ more

abbrev Grows : State → Option State → Type 0
Grows s None = Unit {0}
Grows s (Some t) = IsAfter s t

same : (s t : State) → t.tokens ≡ s.tokens → IsAfter s t
same s t e = record { more = []; tokens_are = e ∙ sym (append-nil s.tokens) }

grows_cond : (s : State) (b : Bool) (x y : Option State) → Grows s x → Grows s y → Grows s (cond b x y)
grows_cond s true x y h k = h
grows_cond s false x y h k = k

g1 : (s : State) (a : Bool) (x : Option State) → Grows s x → Grows s (cond a x None)
g1 s a x h = grows_cond s a x None h tt

g2 : (s : State) (a b : Bool) (x y : Option State) → Grows s x → Grows s y → Grows s (cond a x (cond b y None))
g2 s a b x y h k = grows_cond s a x _ h (g1 s b y k)

g3 : (s : State) (a b c : Bool) (x y z : Option State) → Grows s x → Grows s y → Grows s z → Grows s (cond a x (cond b y (cond c z None)))
g3 s a b c x y z h k l = grows_cond s a x _ h (g2 s b c y z k l)

grows_word : (s : State) (c : ℕ) (mk : List ℕ → MachineMode) (left : List ℕ) (y : Option State) → Grows s y → Grows s (on_word s c mk left y)
grows_word s c mk (d ∷ left) y h = g1 s (eqb c d) _ (same s _ refl)
grows_word s c mk [] y h = h

grows_referred : (s : State) (mk : ReferenceRead → MachineMode) (m : MachineMode) (a : Referred) → Grows s (on_referred s mk m a)
grows_referred s mk m (More r) = same s _ refl
grows_referred s mk m (Done c) = same s _ refl
grows_referred s mk m Bad = tt

-- u has the tokens of s
grows_tag : (s u : State) (c : ℕ) → u.tokens ≡ s.tokens → Grows s (on_tag u c)
grows_tag s u c e = g3 s (is_white c) (eqb c 62) (eqb c 47) _ _ _ (same s _ e) (record { more = u.pending; tokens_are = ap (λ l. l ++ u.pending) e }) (same s _ e)

grows_named : (s : State) (c : ℕ) → Grows s (on_named s c)
grows_named s c = g2 s (is_white c) (eqb c 61) _ _ (same s _ refl) (same s _ refl)

grows_ended : (s : State) (c : ℕ) (ns : List (List ℕ)) → Grows s (on_ended s c ns)
grows_ended s c [] = tt
grows_ended s c (n ∷ ns) = g2 s (is_white c) (eqb c 62) _ _ (same s _ refl) (record { more = text_of s.run ++ (End ∷ []); tokens_are = refl })

grows_to_end : (s : State) (o : Option (List ℕ)) → Grows s (to_end_name s o)
grows_to_end s None = tt
grows_to_end s (Some left) = same s _ refl

grows_end : (s : State) (left : List ℕ) (c : ℕ) → Grows s (on_end s left c)
grows_end s [] c = grows_ended s c s.names
grows_end s (x ∷ left) c = grows_to_end s (behind (encode c) (x ∷ left))

grows_between : (s : State) (c : ℕ) → Grows s (on_between s c)
grows_between s c = grows_cond s (is_text_char c && is_inside s.names) _ _ (same s _ refl) (g3 s (is_white c && not (is_inside s.names)) (eqb c 60) (eqb c 38 && is_inside s.names) _ _ _ (same s _ refl) (same s _ refl) (same s _ refl))

grows_mode : (s : State) (c : ℕ) (m : MachineMode) → Grows s (on_mode s c m)
grows_mode s c Opening = grows_cond s (eqb c 65279) _ _ (same s _ refl) (grows_between s c)
grows_mode s c Between = grows_between s c
grows_mode s c Less = grows_cond s (is_start_char c && may_open (is_inside s.names) s.rooted) _ _ (same s _ refl) (g3 s (eqb c 47 && is_inside s.names) (eqb c 33) (eqb c 63) _ _ _ (same s _ refl) (same s _ refl) (same s _ refl))
grows_mode s c StartName = grows_cond s (is_part_char c) _ _ (same s _ refl) (grows_tag s (begun s) c refl)
grows_mode s c StartSpace = grows_cond s (is_start_char c) _ _ (same s _ refl) (grows_tag s s c refl)
grows_mode s c AttributeName = grows_cond s (is_part_char c) _ _ (same s _ refl) (g1 s (is_fresh s.attr s.attrs) _ (grows_named s c))
grows_mode s c AttributeSpace = grows_named s c
grows_mode s c Equals = g2 s (is_white c) (is_quote c) _ _ (same s _ refl) (same s _ refl)
grows_mode s c (InValue q) = g3 s (is_value_char q c) (eqb c q) (eqb c 38) _ _ _ (same s _ refl) (same s _ refl) (same s _ refl)
grows_mode s c (InValueReference q r) = grows_referred s (InValueReference q) (InValue q) (refer r c)
grows_mode s c ValueEnd = grows_tag s s c refl
grows_mode s c Slash = g1 s (eqb c 62) _ (record { more = s.pending ++ (End ∷ []); tokens_are = refl })
grows_mode s c (EndName left) = grows_end s left c
grows_mode s c EndSpace = grows_ended s c s.names
grows_mode s c Question = g1 s (is_start_char c) _ (same s _ refl)
grows_mode s c Target = g3 s (is_part_char c) (is_white c) (eqb c 63) _ _ _ (same s _ refl) (same s _ refl) (same s _ refl)
grows_mode s c TargetMark = g1 s (eqb c 62) _ (same s _ refl)
grows_mode s c (InInstruction m) = g2 s (eqb c 62 && eqb m 1) (is_char c) _ _ (same s _ refl) (same s _ refl)
grows_mode s c (DocWord left) = grows_word s c DocWord left _ (g1 s (is_white c) _ (same s _ refl))
grows_mode s c DocSpace = g2 s (is_white c) (is_start_char c) _ _ (same s _ refl) (same s _ refl)
grows_mode s c Doc = g3 s (is_doc_char c) (eqb c 62) (is_quote c) _ _ _ (same s _ refl) (same s _ refl) (same s _ refl)
grows_mode s c (DocLiteral q) = g2 s (is_literal_char q c) (eqb c q) _ _ (same s _ refl) (same s _ refl)
grows_mode s c Bang = g3 s (eqb c 45) (eqb c 91 && is_inside s.names) (eqb c 68 && not s.typed) _ _ _ (same s _ refl) (same s _ refl) (same s _ refl)
grows_mode s c BangDash = g1 s (eqb c 45) _ (same s _ refl)
grows_mode s c Comment = g2 s (eqb c 45) (is_char c) _ _ (same s _ refl) (same s _ refl)
grows_mode s c CommentDash = g2 s (eqb c 45) (is_char c) _ _ (same s _ refl) (same s _ refl)
grows_mode s c CommentEnd = g1 s (eqb c 62) _ (same s _ refl)
grows_mode s c (CDSectWord left) = grows_word s c CDSectWord left _ (g1 s (eqb c 91) _ (same s _ refl))
grows_mode s c (InCDSect n) = g3 s (eqb c 93) (eqb c 62 && eqb n 2) (is_char c) _ _ _ (same s _ refl) (same s _ refl) (same s _ refl)
grows_mode s c (InReference r) = grows_referred s InReference Between (refer r c)

pub step_after : (s t : State) (c : ℕ) → step s c ≡ Some t → IsAfter s t
step_after s t c e = subst (Grows s) e (grows_mode s c s.mode)

pub steps_after : (s t : State) (a : List ℕ) → steps s a ≡ Some t → IsAfter s t
steps_after s t [] e = same s t (ap (λ (u : State). u.tokens) (sym (some_is s t e)))
steps_after s t (c ∷ a) e =
    elim (step s c) as (λ (o : Option State). step s c ≡ o → go_on o (λ u. steps u a) ≡ Some t → IsAfter s t) [
      | None ↦ λ d k. none_some t k
      | Some u ↦ λ d k.
          let one = step_after s u c d in
          let all = steps_after u t a k in
          record { more = one.more ++ all.more; tokens_are = all.tokens_are ∙ ap (λ l. l ++ all.more) one.tokens_are ∙ append_assoc s.tokens one.more all.more }
    ] refl e

-- the tokens of a front are the first of those of a longer one
pub fronts_after : (a m : List ℕ) (s t : State) → Fronts a s → Fronts (a ++ m) t → IsAfter s t
fronts_after a m s t f g =
    steps_after s t m (sym (ap (λ o. go_on o (λ u. steps u m)) (fronts_lead a s f)) ∙ sym (steps_append start a m) ∙ fronts_lead (a ++ m) t g)

-- the content up to its last tag has the nodes of all of it, and no run
pub up_good : (b : Bool) (x : Content) → IsContent b x → IsContent b (up_to_tag x)
up_good b nothing g = tt
up_good b mark g = tt
up_good b (space y c) g = up_good b y g.0
up_good b (char y c) g = up_good b y g.0
up_good b (reference y r) g = up_good b y g.0
up_good b (cdata y d) g = up_good b y g.0
up_good b (comment y r) g = up_good b y g.0
up_good b (bare y n) g = up_good b y g.0
up_good b (instruction y n c d) g = up_good b y g.0
up_good b (doctype y q c d) g = up_good b y g.0
up_good b (single y n ats sp) g = g
up_good b (tagged y n ats sp k sp2) g = g

pub up_nodes : (x : Content) → nodes (up_to_tag x) ≡ nodes x
up_nodes nothing = refl
up_nodes mark = refl
up_nodes (space y c) = up_nodes y
up_nodes (char y c) = up_nodes y
up_nodes (reference y r) = up_nodes y
up_nodes (cdata y d) = up_nodes y
up_nodes (comment y r) = up_nodes y
up_nodes (bare y n) = up_nodes y
up_nodes (instruction y n c d) = up_nodes y
up_nodes (doctype y q c d) = up_nodes y
up_nodes (single y n ats sp) = refl
up_nodes (tagged y n ats sp k sp2) = refl

pub up_element : (x : Content) → has_element (up_to_tag x) ≡ has_element x
up_element nothing = refl
up_element mark = refl
up_element (space y c) = up_element y
up_element (char y c) = up_element y
up_element (reference y r) = up_element y
up_element (cdata y d) = up_element y
up_element (comment y r) = up_element y
up_element (bare y n) = up_element y
up_element (instruction y n c d) = up_element y
up_element (doctype y q c d) = up_element y
up_element (single y n ats sp) = refl
up_element (tagged y n ats sp k sp2) = refl

pub up_run : (x : Content) → text_run (up_to_tag x) ≡ []
up_run nothing = refl
up_run mark = refl
up_run (space y c) = up_run y
up_run (char y c) = up_run y
up_run (reference y r) = up_run y
up_run (cdata y d) = up_run y
up_run (comment y r) = up_run y
up_run (bare y n) = up_run y
up_run (instruction y n c d) = up_run y
up_run (doctype y q c d) = up_run y
up_run (single y n ats sp) = refl
up_run (tagged y n ats sp k sp2) = refl

-- it ends with a tag, where one was read
pub up_ends : (fs : Frames) (x : Content) → rooted fs x ≡ true → ends_in_tag fs (up_to_tag x) ≡ true
up_ends fs nothing h = h
up_ends fs mark h = h
up_ends fs (space y c) h = up_ends fs y h
up_ends fs (char y c) h = up_ends fs y h
up_ends fs (reference y r) h = up_ends fs y h
up_ends fs (cdata y d) h = up_ends fs y h
up_ends fs (comment y r) h = up_ends fs y h
up_ends fs (bare y n) h = up_ends fs y h
up_ends fs (instruction y n c d) h = up_ends fs y h
up_ends fs (doctype y q c d) h = up_ends fs y h
up_ends fs (single y n ats sp) h = refl
up_ends fs (tagged y n ats sp k sp2) h = refl

-- the rest of the content
after : (p rest more : List ℕ) (q : List ℕ) → p ≡ q ++ rest → p ++ more ≡ q ++ (rest ++ more)
after p rest more q e = ap (λ l. l ++ more) e ∙ append_assoc q rest more

pub up_rest : (x : Content) → (r : List ℕ) × (spelling x ≡ spelling (up_to_tag x) ++ r)
up_rest nothing = ([], refl)
up_rest mark = (65279 ∷ [], refl)
up_rest (space y c) = let k = up_rest y in (k.0 ++ _, after (spelling y) k.0 (c ∷ []) (spelling (up_to_tag y)) k.1)
up_rest (char y c) = let k = up_rest y in (k.0 ++ _, after (spelling y) k.0 (c ∷ []) (spelling (up_to_tag y)) k.1)
up_rest (reference y r) = let k = up_rest y in (k.0 ++ _, after (spelling y) k.0 _ (spelling (up_to_tag y)) k.1)
up_rest (cdata y d) = let k = up_rest y in (k.0 ++ _, after (spelling y) k.0 _ (spelling (up_to_tag y)) k.1)
up_rest (comment y r) = let k = up_rest y in (k.0 ++ _, after (spelling y) k.0 _ (spelling (up_to_tag y)) k.1)
up_rest (bare y n) = let k = up_rest y in (k.0 ++ _, after (spelling y) k.0 _ (spelling (up_to_tag y)) k.1)
up_rest (instruction y n c d) = let k = up_rest y in (k.0 ++ _, after (spelling y) k.0 _ (spelling (up_to_tag y)) k.1)
up_rest (doctype y q c d) = let k = up_rest y in (k.0 ++ _, after (spelling y) k.0 _ (spelling (up_to_tag y)) k.1)
up_rest (single y n ats sp) = ([], sym (append-nil _))
up_rest (tagged y n ats sp k sp2) = ([], sym (append-nil _))

-- the content of the document in which the open elements are closed
abbrev pub close_all : Frames → Content → Content
close_all bottom x = x
close_all (frame fs y n ats sp) x = close_all fs (tagged y n ats sp x [])

-- the characters read, with the end tags, spell the document
pub closes : (fs : Frames) (x : Content) → IsFrames fs → IsContent (inside fs) x → rooted fs x ≡ true → SpellsDocument ((frames_spelling fs ++ spelling x) ++ end_tags fs) (nodes (close_all fs x))
closes bottom x g h r = record { content = x; good = h; root = root (has_element x) r; spelled = sym (append-nil (spelling x)); tree = refl }
  where
    root : (b : Bool) → b || false ≡ true → b ≡ true
    root true e = refl
    root false e = e
closes (frame fs y n ats sp) x g h r =
    let s = closes fs (tagged y n ats sp x []) g.0 (g.1, g.2, g.3, g.4, h, refl, g.5) refl in
    record { content = s.content; good = s.good; root = s.root; tree = s.tree; spelled = s.spelled ∙ simp append_assoc }

-- its tokens are those seen, the last run, and the ends
pub closes_tokens : (fs : Frames) (x : Content) → tokens (with_run (nodes (close_all fs x)) (text_run (close_all fs x))) ≡ seen_tokens fs x ++ (text_of (text_run x) ++ open_ends fs)
closes_tokens bottom x = tokens-with_run (nodes x) (text_run x) ∙ ap (λ l. tokens (nodes x) ++ l) (sym (append-nil (text_of (text_run x))))
closes_tokens (frame fs y n ats sp) x =
    closes_tokens fs (tagged y n ats sp x [])
    ∙ ap (λ l. l ++ open_ends fs) (sym (closed_tokens fs y x n ats sp []))
    ∙ simp append_assoc

pub close_run : (fs : Frames) (x : Content) → text_run x ≡ [] → text_run (close_all fs x) ≡ []
close_run bottom x e = e
close_run (frame fs y n ats sp) x e = close_run fs (tagged y n ats sp x []) refl
