-- Steps that end no tag and no attribute take nothing away: so their limits are those of the last state.
use Rattle.std.proofs.Common.{ℕ, ◌≡◌, ◌+◌, ◌<◌, ◌≤◌, ◌⊎◌, inl, inr, Bool, true, false, not, ◌&&◌, eqb, cond, List, [], ◌∷◌, ◌++◌, length, Option, Some, None, Ok, refl, sym, ap, ◌∙◌, subst, append_assoc, append-nil, arith, length-append}
use Rattle.std.proofs.lemmas.Bool.{le-ltb, false_from_ne_true, cond-false}
use lib.Utf8.{encode, encodes}
use Rattle.gcx_base.specs.Characters.{is_char, is_white, is_start_char, is_part_char}
use Rattle.gcx_base.specs.declared.limits.Limits.{Limits}
use Rattle.gcx_model.specs.Tree.{Start, End}
use Rattle.gcx_model.specs.Document.{tokens}
use Rattle.gcx_model.specs.Attributes.{is_text_char, is_value_char, is_quote, is_fresh, Attributes}
use Rattle.gcx_model.specs.Markup.{is_doc_char, is_literal_char}
use Rattle.gcx_model.specs.Grammar.{Content, may_open, text_run, attribute_nodes}
use Rattle.gcx_model.specs.Fronts.{Frames, Part, no_part, spaced, part_name, name_spaced, equals, value_part, value_amp, Piece, no_piece, less, started, tag, is_inside, names, text_of}
use Rattle.gcx_model.specs.Faults.{size, IsFullTag, IsFullAttribute, IsDeep}
use Rattle.doc_laws.specs.Machine.{Referred, More, Done, Bad, ReferenceRead, MachineMode, Opening, Between, Less, StartName, StartSpace, AttributeName, AttributeSpace, Equals, InValue, InValueReference, ValueEnd, Slash, EndName, EndSpace, Question, Target, TargetMark, InInstruction, DocWord, DocSpace, Doc, DocLiteral, Bang, BangDash, Comment, CommentDash, CommentEnd, CDSectWord, InCDSect, InReference, State, begun, on_between, on_tag, on_named, on_ended, on_referred, refer, behind, to_end_name, on_end, on_word, on_mode, step, steps, go_on}
use Rattle.doc_laws.specs.States.{part_mode, piece_mode, is_opening, tag_tokens, state_of, Fronts}
use Rattle.doc_laws.specs.Judging.{naming_by, is_deep, deep_place}
use Rattle.doc_laws.proofs.Moves.{some_bytes, m_started, m_attr}
use Rattle.doc_laws.proofs.Fronts.{some_is, none_some}
use Rattle.doc_laws.proofs.Theorems.{step_more}
use Rattle.doc_laws.proofs.Faults.{fronts_one, opens_fronts, depth_names, deep_found, judged_is, Reads, reads_more}

-- how far the tokens are: a step that ends a tag or an attribute makes it more
abbrev pub weight : State → ℕ
weight s = length s.tokens + (length s.tokens + length s.pending)

-- nothing was ended, and nothing is taken away
record Leaves (s t : State) : Type 0 where
  same : weight t ≡ weight s
  names_are : t.names ≡ s.names
  run_grows : length s.run ≤ length t.run
  name_grows : length s.name ≤ length t.name
  attr_grows : length s.attr ≤ length t.attr

abbrev Goes : State → Option State → Type 0
Goes s None = Unit {0}
Goes s (Some t) = (weight s < weight t) ⊎ Leaves s t

stays : (s : State) → Leaves s s
stays s = record { same = refl; names_are = refl; run_grows = omega arith; name_grows = omega arith; attr_grows = omega arith }

turns : (s : State) (m : MachineMode) → Goes s (Some (record s { mode = m }))
turns s m = inr (record { same = refl; names_are = refl; run_grows = omega arith; name_grows = omega arith; attr_grows = omega arith })

runs : (s : State) (m : MachineMode) (bytes : List ℕ) → Goes s (Some (record s { mode = m; run = s.run ++ bytes }))
runs s m bytes = inr (record { same = refl; names_are = refl; run_grows = omega (arith, length-append s.run bytes); name_grows = omega arith; attr_grows = omega arith })

either : (s : State) (b : Bool) (x y : Option State) → Goes s x → Goes s y → Goes s (cond b x y)
either s true x y h k = h
either s false x y h k = k

g1 : (s : State) (a : Bool) (x : Option State) → Goes s x → Goes s (cond a x None)
g1 s a x h = either s a x None h tt

g2 : (s : State) (a b : Bool) (x y : Option State) → Goes s x → Goes s y → Goes s (cond a x (cond b y None))
g2 s a b x y h k = either s a x _ h (g1 s b y k)

g3 : (s : State) (a b c : Bool) (x y z : Option State) → Goes s x → Goes s y → Goes s z → Goes s (cond a x (cond b y (cond c z None)))
g3 s a b c x y z h k l = either s a x _ h (g2 s b c y z k l)

goes_word : (s : State) (c : ℕ) (mk : List ℕ → MachineMode) (left : List ℕ) (y : Option State) → Goes s y → Goes s (on_word s c mk left y)
goes_word s c mk (d ∷ left) y h = g1 s (eqb c d) _ (turns s (mk left))
goes_word s c mk [] y h = h

goes_referred : (s : State) (mk : ReferenceRead → MachineMode) (m : MachineMode) (a : Referred) → Goes s (on_referred s mk m a)
goes_referred s mk m (More r) = turns s (mk r)
goes_referred s mk m (Done c) = runs s m (encode c)
goes_referred s mk m Bad = tt

-- behind a whole name or value, where tokens of the tag wait
goes_tag : (s : State) (c : ℕ) → 0 < length s.pending → Goes s (on_tag s c)
goes_tag s c h = g3 s (is_white c) (eqb c 62) (eqb c 47) _ _ _ (turns s StartSpace) (inl (omega (arith, length-append s.tokens s.pending))) (turns s Slash)

-- behind the name of a start tag
goes_begun : (s : State) (c : ℕ) → s.pending ≡ [] → Goes s (on_tag (begun s) c)
goes_begun s c e =
    let none : length s.pending ≡ 0 = ap length e in
    let more = length-append (text_of s.run) (Start s.name ∷ []) in
    g3 s (is_white c) (eqb c 62) (eqb c 47) _ _ _ (inl (omega arith)) (inl (omega (arith, length-append s.tokens (text_of s.run ++ (Start s.name ∷ []))))) (inl (omega arith))

goes_named : (s : State) (c : ℕ) → Goes s (on_named s c)
goes_named s c = g2 s (is_white c) (eqb c 61) _ _ (turns s AttributeSpace) (turns s Equals)

goes_ended : (s : State) (c : ℕ) (ns : List (List ℕ)) → Goes s (on_ended s c ns)
goes_ended s c [] = tt
goes_ended s c (n ∷ ns) = g2 s (is_white c) (eqb c 62) _ _ (turns s EndSpace) (inl (omega (arith, length-append s.tokens (text_of s.run ++ (End ∷ [])), length-append (text_of s.run) (End ∷ []))))

goes_to_end : (s : State) (o : Option (List ℕ)) → Goes s (to_end_name s o)
goes_to_end s None = tt
goes_to_end s (Some left) = turns s (EndName left)

goes_end : (s : State) (left : List ℕ) (c : ℕ) → Goes s (on_end s left c)
goes_end s [] c = goes_ended s c s.names
goes_end s (x ∷ left) c = goes_to_end s (behind (encode c) (x ∷ left))

goes_between : (s : State) (c : ℕ) → Goes s (on_between s c)
goes_between s c = either s (is_text_char c && is_inside s.names) _ _ (runs s Between (encode c)) (g3 s (is_white c && not (is_inside s.names)) (eqb c 60) (eqb c 38 && is_inside s.names) _ _ _ (turns s Between) (turns s Less) (turns s (InReference _)))

-- what is known of a state in its mode
abbrev Ready : State → MachineMode → Type 0
Ready s Less = s.name ≡ []
Ready s StartName = s.pending ≡ []
Ready s StartSpace = (s.attr ≡ []) × (0 < length s.pending)
Ready s ValueEnd = 0 < length s.pending
Ready s other = Unit {0}

goes_mode : (s : State) (c : ℕ) (m : MachineMode) → Ready s m → Goes s (on_mode s c m)
goes_mode s c Opening r = either s (eqb c 65279) _ _ (turns s Between) (goes_between s c)
goes_mode s c Between r = goes_between s c
goes_mode s c Less r =
    let none : length s.name ≡ 0 = ap length r in
    either s (is_start_char c && may_open (is_inside s.names) s.rooted) _ _ (inr (record { same = refl; names_are = refl; run_grows = omega arith; name_grows = omega arith; attr_grows = omega arith }))
    (g3 s (eqb c 47 && is_inside s.names) (eqb c 33) (eqb c 63) _ _ _ (turns s (EndName _)) (turns s Bang) (turns s Question))
goes_mode s c StartName r = either s (is_part_char c) _ _ (inr (record { same = refl; names_are = refl; run_grows = omega arith; name_grows = omega (arith, length-append s.name (encode c)); attr_grows = omega arith })) (goes_begun s c r)
goes_mode s c StartSpace r =
    let none : length s.attr ≡ 0 = ap length r.0 in
    either s (is_start_char c) _ _ (inr (record { same = refl; names_are = refl; run_grows = omega arith; name_grows = omega arith; attr_grows = omega arith })) (goes_tag s c r.1)
goes_mode s c AttributeName r = either s (is_part_char c) _ _ (inr (record { same = refl; names_are = refl; run_grows = omega arith; name_grows = omega arith; attr_grows = omega (arith, length-append s.attr (encode c)) })) (g1 s (is_fresh s.attr s.attrs) _ (goes_named s c))
goes_mode s c AttributeSpace r = goes_named s c
goes_mode s c Equals r = g2 s (is_white c) (is_quote c) _ _ (turns s Equals) (turns s (InValue c))
goes_mode s c (InValue q) r =
    g3 s (is_value_char q c) (eqb c q) (eqb c 38) _ _ _ (runs s (InValue q) (encode c))
    (inl (omega (arith, length-append s.pending (Start s.attr ∷ (text_of s.run ++ (End ∷ [])))))) (turns s (InValueReference q _))
goes_mode s c (InValueReference q a) r = goes_referred s (InValueReference q) (InValue q) (refer a c)
goes_mode s c ValueEnd r = goes_tag s c r
goes_mode s c Slash r = g1 s (eqb c 62) _ (inl (omega (arith, length-append s.tokens (s.pending ++ (End ∷ [])), length-append s.pending (End ∷ []))))
goes_mode s c (EndName left) r = goes_end s left c
goes_mode s c EndSpace r = goes_ended s c s.names
goes_mode s c Question r = g1 s (is_start_char c) _ (turns s Target)
goes_mode s c Target r = g3 s (is_part_char c) (is_white c) (eqb c 63) _ _ _ (turns s Target) (turns s (InInstruction 0)) (turns s TargetMark)
goes_mode s c TargetMark r = g1 s (eqb c 62) _ (turns s Between)
goes_mode s c (InInstruction m) r = g2 s (eqb c 62 && eqb m 1) (is_char c) _ _ (turns s Between) (turns s (InInstruction _))
goes_mode s c (DocWord left) r = goes_word s c DocWord left _ (g1 s (is_white c) _ (turns s DocSpace))
goes_mode s c DocSpace r = g2 s (is_white c) (is_start_char c) _ _ (turns s DocSpace) (turns s Doc)
goes_mode s c Doc r = g3 s (is_doc_char c) (eqb c 62) (is_quote c) _ _ _ (turns s Doc) (inr (record { same = refl; names_are = refl; run_grows = omega arith; name_grows = omega arith; attr_grows = omega arith })) (turns s (DocLiteral c))
goes_mode s c (DocLiteral q) r = g2 s (is_literal_char q c) (eqb c q) _ _ (turns s (DocLiteral q)) (turns s Doc)
goes_mode s c Bang r = g3 s (eqb c 45) (eqb c 91 && is_inside s.names) (eqb c 68 && not s.typed) _ _ _ (turns s BangDash) (turns s (CDSectWord _)) (turns s (DocWord _))
goes_mode s c BangDash r = g1 s (eqb c 45) _ (turns s Comment)
goes_mode s c Comment r = g2 s (eqb c 45) (is_char c) _ _ (turns s CommentDash) (turns s Comment)
goes_mode s c CommentDash r = g2 s (eqb c 45) (is_char c) _ _ (turns s CommentEnd) (turns s Comment)
goes_mode s c CommentEnd r = g1 s (eqb c 62) _ (turns s Between)
goes_mode s c (CDSectWord left) r = goes_word s c CDSectWord left _ (g1 s (eqb c 91) _ (turns s (InCDSect 0)))
goes_mode s c (InCDSect n) r =
    g3 s (eqb c 93) (eqb c 62 && eqb n 2) (is_char c) _ _ _ (bracket (eqb n 2)) (turns s Between) (runs s (InCDSect 0) _)
  where
    bracket : (b : Bool) → Goes s (Some (record s { mode = InCDSect (cond (eqb n 0) 1 2); run = cond b (s.run ++ (93 ∷ [])) s.run }))
    bracket true = runs s (InCDSect (cond (eqb n 0) 1 2)) (93 ∷ [])
    bracket false = turns s (InCDSect (cond (eqb n 0) 1 2))
goes_mode s c (InReference a) r = goes_referred s InReference Between (refer a c)

-- each front is so
tag_waits : (x : Content) (n : List ℕ) (ats : Attributes) → 0 < length (tag_tokens x n ats)
tag_waits x n ats = omega (arith, length-append (text_of (text_run x)) (Start (encodes n) ∷ tokens (attribute_nodes ats)))

ready_part : (fs : Frames) (x : Content) (n : List ℕ) (ats : Attributes) (p : Part) → Ready (state_of fs x (tag n ats p)) (part_mode p)
ready_part fs x n ats no_part = tag_waits x n ats
ready_part fs x n ats (spaced g) = (refl, tag_waits x n ats)
ready_part fs x n ats (part_name g m) = tt
ready_part fs x n ats (name_spaced g m sp) = tt
ready_part fs x n ats (equals g m sp sp2) = tt
ready_part fs x n ats (value_part h v) = tt
ready_part fs x n ats (value_amp h v r) = tt

ready_piece : (fs : Frames) (x : Content) (p : Piece) → Ready (state_of fs x p) (piece_mode fs x p)
ready_piece fs x no_piece = resting (is_opening fs x)
  where
    resting : (b : Bool) → Ready (state_of fs x no_piece) (cond b Opening Between)
    resting true = tt
    resting false = tt
ready_piece fs x less = refl
ready_piece fs x (started n) = refl
ready_piece fs x (tag n ats p) = ready_part fs x n ats p
ready_piece fs x p = tt

ready : (a : List ℕ) (s : State) → Fronts a s → Ready s s.mode
ready a s f = subst (λ (u : State). Ready u u.mode) f.state (ready_piece f.frames f.content f.piece)

step_goes : (a : List ℕ) (s t : State) (c : ℕ) → Fronts a s → step s c ≡ Some t → Goes s (Some t)
step_goes a s t c f e = subst (Goes s) e (goes_mode s c s.mode (ready a s f))

-- along steps
record Along (s t : State) : Type 0 where
  more : weight s ≤ weight t
  leaves : weight s ≡ weight t → Leaves s t

joins : (s u t : State) → Goes s (Some u) → Along u t → Along s t
joins s u t (inl l) a = record { more = omega (arith, l, a.more); leaves = λ e. absurd (omega (arith, l, a.more, e)) }
joins s u t (inr l) a = record {
  more = omega (arith, l.same, a.more);
  leaves = λ e.
      let k = a.leaves (l.same ∙ e) in
      record {
        same = k.same ∙ l.same;
        names_are = k.names_are ∙ l.names_are;
        run_grows = omega (arith, l.run_grows, k.run_grows);
        name_grows = omega (arith, l.name_grows, k.name_grows);
        attr_grows = omega (arith, l.attr_grows, k.attr_grows);
      };
}

steps_go : (a : List ℕ) (s t : State) (cs : List ℕ) → Fronts a s → steps s cs ≡ Some t → Along s t
steps_go a s t [] f e = subst (Along s) (some_is s t e) (record { more = omega arith; leaves = λ k. stays s })
steps_go a s t (c ∷ cs) f e =
    elim (step s c) as (λ (o : Option State). step s c ≡ o → go_on o (λ u. steps u cs) ≡ Some t → Along s t) [
      | None ↦ λ d k. none_some t k
      | Some u ↦ λ d k. joins s u t (step_goes a s u c f d) (steps_go (a ++ (c ∷ [])) u t cs (step_more a s u c f d) k)
    ] refl e

-- the limits of what is read last: an element or an attribute that is begun isn't too deep
pub record IsShort (lim : Limits) (t : State) : Type 0 where
  pub run_short : length t.run ≤ lim.text
  pub name_short : length t.name ≤ lim.name
  pub attr_short : length t.attr ≤ lim.name
  pub element : (t.name ≡ []) ⊎ (length t.names < lim.depth)
  pub attribute : (t.attr ≡ []) ⊎ (length t.names + 1 < lim.depth)

some_encodes : (c : ℕ) → 0 < length (encodes (c ∷ []))
some_encodes c = let b = some_bytes c in omega (arith, ap length b.2, length-append (encode c) [])

empty_length : (l : List ℕ) → l ≡ [] → length l ≡ 0
empty_length l e = ap length e

never_deep : (lim : Limits) (a : List ℕ) (s u t : State) (c : ℕ) → Fronts a s → step s c ≡ Some u → Leaves s u → Leaves u t → IsShort lim t → is_deep lim s c ≡ false
never_deep lim a s u t c f d l k h = false_from_ne_true (is_deep lim s c) (λ e. no (deep_found lim a c s u f d e))
  where
    long : length t.names ≡ length s.names
    long = ap length (k.names_are ∙ l.names_are)

    of_tag : is_start_char c ≡ true → IsFullTag lim a → ⊥
    of_tag b w =
        let is : state_of w.frames w.content less ≡ s = fronts_one a _ s (opens_fronts a w.frames w.content less w.opens) f in
        let next : state_of w.frames w.content (started (c ∷ [])) ≡ u = some_is _ u (sym (m_started w.frames w.content c b w.may) ∙ ap (λ (z : State). step z c) is ∙ d) in
        let named : length (encodes (c ∷ [])) ≡ length u.name = ap (λ (z : State). length z.name) next in
        let deep : length (names w.frames) ≡ length s.names = ap (λ (z : State). length z.names) is in
        elim h.element [
          | inl e ↦ omega (arith, named, some_encodes c, k.name_grows, empty_length t.name e)
          | inr e ↦ omega (arith, long, deep, depth_names w.frames, w.full, e)
        ]

    of_attribute : is_start_char c ≡ true → IsFullAttribute lim a → ⊥
    of_attribute b w =
        let p = tag w.name w.ats (spaced w.gap) in
        let is : state_of w.frames w.content p ≡ s = fronts_one a _ s (opens_fronts a w.frames w.content p w.opens) f in
        let next : state_of w.frames w.content (tag w.name w.ats (part_name w.gap (c ∷ []))) ≡ u = some_is _ u (sym (m_attr w.frames w.content w.name w.ats w.gap c b) ∙ ap (λ (z : State). step z c) is ∙ d) in
        let named : length (encodes (c ∷ [])) ≡ length u.attr = ap (λ (z : State). length z.attr) next in
        let deep : length (names w.frames) ≡ length s.names = ap (λ (z : State). length z.names) is in
        elim h.attribute [
          | inl e ↦ omega (arith, named, some_encodes c, k.attr_grows, empty_length t.attr e)
          | inr e ↦ omega (arith, long, deep, depth_names w.frames, w.full, e)
        ]

    no : IsDeep lim a c (deep_place (size a) s.mode) → ⊥
    no w = elim w.1 [ inl q ↦ of_tag w.0 q.0 | inr q ↦ of_attribute w.0 q.0 ]

naming_short : (k : ℕ) (m : MachineMode) (t : State) → length t.name ≤ k → length t.attr ≤ k → length (naming_by m t) ≤ k
naming_short k StartName t h g = h
naming_short k AttributeName t h g = g
naming_short k other t h g = omega arith

-- one character within limits
pub one_reads : (lim : Limits) (a : List ℕ) (c : ℕ) (s t : State) → Reads lim a s → step s c ≡ Some t → length t.run ≤ lim.text → is_deep lim s c ≡ false → length (naming_by t.mode t) ≤ lim.name → Reads lim (a ++ (c ∷ [])) t
one_reads lim a c s t r d run_short shallow name_short =
    reads_more lim a c s t r
    (judged_is lim (size a) s c (Some t) (Ok t) d
    (cond-false _ _ _ (le-ltb lim.text (length t.run) run_short) ∙ cond-false _ _ _ shallow ∙ cond-false _ _ _ (le-ltb lim.name (length (naming_by t.mode t)) name_short)))

-- characters that end no tag and no attribute
pub reads_along : (lim : Limits) (a cs : List ℕ) (s t : State) → Reads lim a s → steps s cs ≡ Some t → weight s ≡ weight t → IsShort lim t → Reads lim (a ++ cs) t
reads_along lim a [] s t r e w h = subst (Reads lim (a ++ [])) (some_is s t e) (subst (λ l. Reads lim l s) (sym (append-nil a)) r)
reads_along lim a (c ∷ cs) s t r e w h =
    elim (step s c) as (λ (o : Option State). step s c ≡ o → go_on o (λ u. steps u cs) ≡ Some t → Reads lim (a ++ (c ∷ cs)) t) [
      | None ↦ λ d k. none_some t k
      | Some u ↦ λ d k. by u d (step_goes a s u c r.front d) (steps_go (a ++ (c ∷ [])) u t cs (step_more a s u c r.front d) k) (λ n v. reads_along lim (a ++ (c ∷ [])) cs u t n k v h)
    ] refl e
  where
    by : (u : State) → step s c ≡ Some u → Goes s (Some u) → Along u t → (Reads lim (a ++ (c ∷ [])) u → weight u ≡ weight t → Reads lim ((a ++ (c ∷ [])) ++ cs) t) → Reads lim (a ++ (c ∷ cs)) t
    by u d (inl l) g rest = absurd (omega (arith, l, g.more, w))
    by u d (inr l) g rest =
        let m = g.leaves (l.same ∙ w) in
        let shallow = never_deep lim a s u t c r.front d l m h in
        let naming = naming_short lim.name u.mode u (omega (arith, m.name_grows, h.name_short)) (omega (arith, m.attr_grows, h.attr_short)) in
        let one = one_reads lim a c s u r d (omega (arith, m.run_grows, h.run_short)) shallow naming in
        subst (λ l. Reads lim l t) (append_assoc a (c ∷ []) cs) (rest one (l.same ∙ w))
