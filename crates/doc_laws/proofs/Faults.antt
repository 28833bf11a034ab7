-- The judged step is exact.
use Rattle.std.proofs.Common.{ℕ, ◌≡◌, ◌+◌, ◌<◌, ◌≤◌, Result, Ok, Err, ltb-true, ltb-false, leb-true, le-leb, lt-ltb, ◌⊎◌, inl, inr, Bool, true, false, not, ◌&&◌, eqb, cond, List, [], ◌∷◌, ◌++◌, length, Option, Some, None, refl, sym, ap, ◌∙◌, subst, append_assoc, append-nil, arith}
use Rattle.std.specs.Prelude.{nat_le, nat_lt}
use Rattle.std.specs.Char.{len_utf8}
use Rattle.std.proofs.lemmas.Bool.{le-ltb, false≢true, and_parts, and_from, false_from_ne_true, cond-true, cond-false}
use lib.Utf8.{encode, encodes}
use Rattle.gcx_base.specs.Characters.{is_char, is_white, is_start_char, is_part_char}
use Rattle.gcx_base.specs.declared.limits.Limits.{Limits}
use Rattle.gcx_model.specs.Attributes.{is_text_char, is_quote, is_fresh, Attributes, is_value_char}
use Rattle.gcx_model.specs.Markup.{is_doc_char, is_literal_char}
use Rattle.gcx_model.specs.Grammar.{Content, has_element, may_open, Viable}
use Rattle.gcx_model.specs.Fronts.{Frames, bottom, frame, Part, spaced, part_name, Piece, no_piece, less, started, tag, names, is_inside, inside, depth, OpensFrames, IsFront, front_spelling, frames_spelling, part_naming, naming, piece_run}
use Rattle.gcx_model.specs.Grammar.{spelling}
use Rattle.gcx_model.specs.Faults.{DocumentRefusal, AtSyntax, AtDepth, AtName, AtText, size, IsFullTag, IsFullAttribute, IsDeep, Comes, Clean, ComesFirst}
use Rattle.doc_laws.specs.Machine.{Referred, More, Done, Bad, ReferenceRead, MachineMode, Opening, Between, Less, StartName, StartSpace, AttributeName, AttributeSpace, Equals, InValue, InValueReference, ValueEnd, Slash, EndName, EndSpace, Question, Target, TargetMark, InInstruction, DocWord, DocSpace, Doc, DocLiteral, Bang, BangDash, Comment, CommentDash, CommentEnd, CDSectWord, InCDSect, InReference, State, start, begun, on_between, on_tag, on_named, on_ended, on_referred, refer, behind, to_end_name, on_end, on_word, on_mode, steps, step, go_on}
use Rattle.doc_laws.specs.States.{part_mode, piece_mode, is_opening, rooted, state_of, Fronts}
use Rattle.doc_laws.specs.Judging.{naming_by, begins_deep, is_deep, deep_place, judged_by, judged, on_ok, judged_steps, Told}
use Rattle.doc_laws.proofs.Tests.{at}
use Rattle.doc_laws.proofs.Moves.{steps_append, may_rooted, m_started, m_attr}
use Rattle.doc_laws.proofs.Fronts.{some_is, first, last}
use Rattle.doc_laws.proofs.Theorems.{start_fronts, step_more, fronts_lead, Fronts_viable, step_bad}

pub depth_names : (fs : Frames) → length (names fs) ≡ depth fs
depth_names bottom = refl
depth_names (frame fs x n ats sp) = omega (arith, depth_names fs)

pub opens_fronts : (c : List ℕ) (fs : Frames) (x : Content) (p : Piece) → OpensFrames c fs x p → Fronts c (state_of fs x p)
opens_fronts c fs x p o = record { frames = fs; content = x; piece = p; good = o.good; spelled = o.spelled; state = refl }

pub fronts_one : (b : List ℕ) (s t : State) → Fronts b s → Fronts b t → s ≡ t
fronts_one b s t f g = some_is s t (sym (fronts_lead b s f) ∙ fronts_lead b t g)

-- what a piece's name looks like in its state
part_naming_is : (fs : Frames) (x : Content) (n : List ℕ) (ats : Attributes) (p : Part) → naming_by (part_mode p) (state_of fs x (tag n ats p)) ≡ encodes (part_naming p)
part_naming_is fs x n ats (part_name g m) = refl
part_naming_is fs x n ats p = refl

naming_is : (fs : Frames) (x : Content) (p : Piece) → naming_by (piece_mode fs x p) (state_of fs x p) ≡ encodes (naming p)
naming_is fs x (started n) = refl
naming_is fs x (tag n ats p) = part_naming_is fs x n ats p
naming_is fs x no_piece = resting (is_opening fs x)
  where
    resting : (b : Bool) → naming_by (cond b Opening Between) (state_of fs x no_piece) ≡ []
    resting true = refl
    resting false = refl
naming_is fs x p = refl

-- the step that a front one longer shows
opens_step : (front : List ℕ) (c : ℕ) (s : State) (fs : Frames) (x : Content) (p : Piece) → Fronts front s → OpensFrames (front ++ c ∷ []) fs x p → step s c ≡ Some (state_of fs x p)
opens_step front c s fs x p f o =
    let e = fronts_lead (front ++ c ∷ []) (state_of fs x p) (opens_fronts (front ++ c ∷ []) fs x p o) in
    let m = steps_append start front (c ∷ []) ∙ ap (λ q. go_on q (λ t. steps t (c ∷ []))) (fronts_lead front s f) in
    one (step s c) (sym m ∙ e)
  where
    one : (q : Option State) → go_on q (λ t. steps t []) ≡ Some (state_of fs x p) → q ≡ Some (state_of fs x p)
    one None e = e
    one (Some t) e = e

-- a step that reads a name leaves the run
abbrev Keeps : State → Option State → Type 0
Keeps s None = Unit {0}
Keeps s (Some t) = (naming_by t.mode t ≡ []) ⊎ (t.run ≡ s.run)

keeps_cond : (s : State) (b : Bool) (x y : Option State) → Keeps s x → Keeps s y → Keeps s (cond b x y)
keeps_cond s true x y h k = h
keeps_cond s false x y h k = k

keeps_word : (s : State) (c : ℕ) (mk : List ℕ → MachineMode) (left : List ℕ) (y : Option State) → ((l : List ℕ) → Keeps s (Some (record s { mode = mk l }))) → Keeps s y → Keeps s (on_word s c mk left y)
keeps_word s c mk (d ∷ left) y k h = keeps_cond s (eqb c d) _ _ (k left) tt
keeps_word s c mk [] y k h = h

keeps_referred : (s : State) (mk : ReferenceRead → MachineMode) (m : MachineMode) (a : Referred) → ((r : ReferenceRead) → Keeps s (Some (record s { mode = mk r }))) → ((c : ℕ) → Keeps s (Some (record s { mode = m; run = s.run ++ encode c }))) → Keeps s (on_referred s mk m a)
keeps_referred s mk m (More r) h k = h r
keeps_referred s mk m (Done c) h k = k c
keeps_referred s mk m Bad h k = tt

keeps_tag : (s u : State) (c : ℕ) → Keeps s (on_tag u c)
keeps_tag s u c = keeps_cond s (is_white c) _ _ (inl refl) (keeps_cond s (eqb c 62) _ _ (inl refl) (keeps_cond s (eqb c 47) _ _ (inl refl) tt))

keeps_named : (s : State) (c : ℕ) → Keeps s (on_named s c)
keeps_named s c = keeps_cond s (is_white c) _ _ (inl refl) (keeps_cond s (eqb c 61) _ _ (inl refl) tt)

keeps_ended : (s : State) (c : ℕ) (ns : List (List ℕ)) → Keeps s (on_ended s c ns)
keeps_ended s c [] = tt
keeps_ended s c (n ∷ ns) = keeps_cond s (is_white c) _ _ (inl refl) (keeps_cond s (eqb c 62) _ _ (inl refl) tt)

keeps_to_end : (s : State) (o : Option (List ℕ)) → Keeps s (to_end_name s o)
keeps_to_end s None = tt
keeps_to_end s (Some left) = inl refl

keeps_end : (s : State) (left : List ℕ) (c : ℕ) → Keeps s (on_end s left c)
keeps_end s [] c = keeps_ended s c s.names
keeps_end s (x ∷ left) c = keeps_to_end s (behind (encode c) (x ∷ left))

-- one test, two and three
k1 : (s : State) (a : Bool) (x : Option State) → Keeps s x → Keeps s (cond a x None)
k1 s a x h = keeps_cond s a x None h tt

k2 : (s : State) (a b : Bool) (x y : Option State) → Keeps s x → Keeps s y → Keeps s (cond a x (cond b y None))
k2 s a b x y h k = keeps_cond s a x _ h (k1 s b y k)

k3 : (s : State) (a b c : Bool) (x y z : Option State) → Keeps s x → Keeps s y → Keeps s z → Keeps s (cond a x (cond b y (cond c z None)))
k3 s a b c x y z h k l = keeps_cond s a x _ h (k2 s b c y z k l)

keeps_between : (s : State) (c : ℕ) → Keeps s (on_between s c)
keeps_between s c = keeps_cond s (is_text_char c && is_inside s.names) _ _ (inl refl) (k3 s (is_white c && not (is_inside s.names)) (eqb c 60) (eqb c 38 && is_inside s.names) _ _ _ (inl refl) (inl refl) (inl refl))

keeps_mode : (s : State) (c : ℕ) (m : MachineMode) → Keeps s (on_mode s c m)
keeps_mode s c Opening = keeps_cond s (eqb c 65279) _ _ (inl refl) (keeps_between s c)
keeps_mode s c Between = keeps_between s c
keeps_mode s c Less = keeps_cond s (is_start_char c && may_open (is_inside s.names) s.rooted) _ _ (inr refl) (k3 s (eqb c 47 && is_inside s.names) (eqb c 33) (eqb c 63) _ _ _ (inl refl) (inl refl) (inl refl))
keeps_mode s c StartName = keeps_cond s (is_part_char c) _ _ (inr refl) (keeps_tag s (begun s) c)
keeps_mode s c StartSpace = keeps_cond s (is_start_char c) _ _ (inr refl) (keeps_tag s s c)
keeps_mode s c AttributeName = keeps_cond s (is_part_char c) _ _ (inr refl) (k1 s (is_fresh s.attr s.attrs) _ (keeps_named s c))
keeps_mode s c AttributeSpace = keeps_named s c
keeps_mode s c Equals = k2 s (is_white c) (is_quote c) _ _ (inl refl) (inl refl)
keeps_mode s c (InValue q) = k3 s (is_value_char q c) (eqb c q) (eqb c 38) _ _ _ (inl refl) (inl refl) (inl refl)
keeps_mode s c (InValueReference q r) = keeps_referred s (InValueReference q) (InValue q) (refer r c) (λ r. inl refl) (λ d. inl refl)
keeps_mode s c ValueEnd = keeps_tag s s c
keeps_mode s c Slash = k1 s (eqb c 62) _ (inl refl)
keeps_mode s c (EndName left) = keeps_end s left c
keeps_mode s c EndSpace = keeps_ended s c s.names
keeps_mode s c Question = k1 s (is_start_char c) _ (inl refl)
keeps_mode s c Target = k3 s (is_part_char c) (is_white c) (eqb c 63) _ _ _ (inl refl) (inl refl) (inl refl)
keeps_mode s c TargetMark = k1 s (eqb c 62) _ (inl refl)
keeps_mode s c (InInstruction m) = k2 s (eqb c 62 && eqb m 1) (is_char c) _ _ (inl refl) (inl refl)
keeps_mode s c (DocWord left) = keeps_word s c DocWord left _ (λ l. inl refl) (k1 s (is_white c) _ (inl refl))
keeps_mode s c DocSpace = k2 s (is_white c) (is_start_char c) _ _ (inl refl) (inl refl)
keeps_mode s c Doc = k3 s (is_doc_char c) (eqb c 62) (is_quote c) _ _ _ (inl refl) (inl refl) (inl refl)
keeps_mode s c (DocLiteral q) = k2 s (is_literal_char q c) (eqb c q) _ _ (inl refl) (inl refl)
keeps_mode s c Bang = k3 s (eqb c 45) (eqb c 91 && is_inside s.names) (eqb c 68 && not s.typed) _ _ _ (inl refl) (inl refl) (inl refl)
keeps_mode s c BangDash = k1 s (eqb c 45) _ (inl refl)
keeps_mode s c Comment = k2 s (eqb c 45) (is_char c) _ _ (inl refl) (inl refl)
keeps_mode s c CommentDash = k2 s (eqb c 45) (is_char c) _ _ (inl refl) (inl refl)
keeps_mode s c CommentEnd = k1 s (eqb c 62) _ (inl refl)
keeps_mode s c (CDSectWord left) = keeps_word s c CDSectWord left _ (λ l. inl refl) (k1 s (eqb c 91) _ (inl refl))
keeps_mode s c (InCDSect n) = k3 s (eqb c 93) (eqb c 62 && eqb n 2) (is_char c) _ _ _ (inl refl) (inl refl) (inl refl)
keeps_mode s c (InReference r) = keeps_referred s InReference Between (refer r c) (λ r. inl refl) (λ d. inl refl)

step_keeps : (s t : State) (c : ℕ) → step s c ≡ Some t → (naming_by t.mode t ≡ []) ⊎ (t.run ≡ s.run)
step_keeps s t c e = subst (Keeps s) e (keeps_mode s c s.mode)

named_short : (lim : Limits) (s t : State) (c : ℕ) → step s c ≡ Some t → length s.run ≤ lim.text → (naming_by t.mode t ≡ [] → ⊥) → nat_lt lim.text (length t.run) ≡ false
named_short lim s t c e short h =
    elim (step_keeps s t c e) [
      | inl k ↦ absurd (h k)
      | inr k ↦ le-ltb lim.text (length t.run) (subst (λ l. length l ≤ lim.text) (sym k) short)
    ]

pub judged_is : (lim : Limits) (k : ℕ) (s : State) (c : ℕ) (o : Option State) (r : Result State DocumentRefusal) → step s c ≡ o → judged_by lim k s c o ≡ r → judged lim k s c ≡ r
judged_is lim k s c o r e f = ap (judged_by lim k s c) e ∙ f

pub size_more : (xs : List ℕ) (c : ℕ) → size (xs ++ (c ∷ [])) ≡ size xs + len_utf8 c
size_more [] c = omega arith
size_more (x ∷ xs) c = omega (arith, size_more xs c)

-- what is too deep is tested so, and what is tested so is too deep
deep_true : (lim : Limits) (front : List ℕ) (c k : ℕ) (s : State) → Fronts front s → IsDeep lim front c k → (is_deep lim s c ≡ true) × (deep_place (size front) s.mode ≡ k)
deep_true lim front c k s f h = elim h.1 [ inl q ↦ of_tag q.0 q.1 | inr q ↦ of_attribute q.0 q.1 ]
  where
    of_tag : IsFullTag lim front → k + 1 ≡ size front → (is_deep lim s c ≡ true) × (deep_place (size front) s.mode ≡ k)
    of_tag w e =
        let is : state_of w.frames w.content less ≡ s = fronts_one front _ s (opens_fronts front w.frames w.content less w.opens) f in
        let within : lim.depth ≤ length (names w.frames) = omega (arith, depth_names w.frames, w.full) in
        subst (λ (u : State). (is_deep lim u c ≡ true) × (deep_place (size front) u.mode ≡ k)) is
        (and_from (is_start_char c) _ h.0 (le-leb lim.depth (length (names w.frames)) within), omega (arith, e))

    of_attribute : IsFullAttribute lim front → k ≡ size front → (is_deep lim s c ≡ true) × (deep_place (size front) s.mode ≡ k)
    of_attribute w e =
        let is : state_of w.frames w.content (tag w.name w.ats (spaced w.gap)) ≡ s = fronts_one front _ s (opens_fronts front w.frames w.content (tag w.name w.ats (spaced w.gap)) w.opens) f in
        let within : lim.depth ≤ length (names w.frames) + 1 = omega (arith, depth_names w.frames, w.full) in
        subst (λ (u : State). (is_deep lim u c ≡ true) × (deep_place (size front) u.mode ≡ k)) is
        (and_from (is_start_char c) _ h.0 (le-leb lim.depth (length (names w.frames) + 1) within), sym e)

-- behind '<' a name begins where an element may
name_may : (fs : Frames) (x : Content) (c : ℕ) (t : State) → is_start_char c ≡ true → step (state_of fs x less) c ≡ Some t → may_open (inside fs) (has_element x) ≡ true
name_may fs x c t h e =
    elim (first (is_start_char c && may_open (inside fs) (rooted fs x)) _ t _ e) [
      | inl b ↦ sym (may_rooted (inside fs) (has_element x)) ∙ (and_parts (is_start_char c) _ b).1
      | inr k ↦ elim (first (eqb c 47 && inside fs) _ t _ k.1) [
        | inl b ↦ no 47 refl (and_parts (eqb c 47) (inside fs) b).0
        | inr k2 ↦ elim (first (eqb c 33) _ t _ k2.1) [
          | inl b ↦ no 33 refl b
          | inr k3 ↦ no 63 refl (last (eqb c 63) _ t k3.1)
        ]
      ]
    ]
  where
    no : (n : ℕ) → is_start_char n ≡ false → eqb c n ≡ true → may_open (inside fs) (has_element x) ≡ true
    no n q b = absurd (false≢true (sym q ∙ ap is_start_char (sym (at c n b)) ∙ h))

pub deep_found : (lim : Limits) (front : List ℕ) (c : ℕ) (s t : State) → Fronts front s → step s c ≡ Some t → is_deep lim s c ≡ true → IsDeep lim front c (deep_place (size front) s.mode)
deep_found lim front c s t f e h =
    subst (λ (u : State). IsDeep lim front c (deep_place (size front) u.mode)) f.state
    (by f.frames f.content f.piece f.good f.spelled (ap (λ (u : State). step u c) f.state ∙ e) (ap (λ (u : State). is_deep lim u c) f.state ∙ h))
  where
    never : (a : Bool) {X : Type 0} → a && false ≡ true → X
    never true e = absurd (false≢true e)
    never false e = absurd (false≢true e)

    resting : (fs : Frames) (x : Content) (b : Bool) → is_start_char c && begins_deep lim (state_of fs x no_piece) (cond b Opening Between) ≡ true → ⊥
    resting fs x true e = never (is_start_char c) e
    resting fs x false e = never (is_start_char c) e

    by : (fs : Frames) (x : Content) (p : Piece) → IsFront fs x p → front_spelling fs x p ≡ front → step (state_of fs x p) c ≡ Some t → is_deep lim (state_of fs x p) c ≡ true → IsDeep lim front c (deep_place (size front) (piece_mode fs x p))
    by fs x less g sp e d =
        let both = and_parts (is_start_char c) (nat_le lim.depth (length (names fs))) d in
        let le = leb-true lim.depth (length (names fs)) both.1 in
        let sized : size front ≡ size (frames_spelling fs ++ spelling x) + 1 = ap size (sym sp) ∙ size_more (frames_spelling fs ++ spelling x) 60 in
        (both.0, inl (record { frames = fs; content = x; opens = record { good = g; spelled = sp }; may = name_may fs x c t both.0 e; full = omega (arith, le, depth_names fs) }, omega (arith, sized)))
    by fs x (tag n ats (spaced gap)) g sp e d =
        let both = and_parts (is_start_char c) (nat_le lim.depth (length (names fs) + 1)) d in
        let le = leb-true lim.depth (length (names fs) + 1) both.1 in
        (both.0, inr (record { frames = fs; content = x; name = n; ats = ats; gap = gap; opens = record { good = g; spelled = sp }; full = omega (arith, le, depth_names fs) }, refl))
    by fs x (tag n ats p) g sp e d = never (is_start_char c) d
    by fs x no_piece g sp e d = absurd (resting fs x (is_opening fs x) d)
    by fs x p g sp e d = never (is_start_char c) d

long_some : (lim : Limits) (l : List ℕ) → lim.name < length l → l ≡ [] → ⊥
long_some lim l h e = let z : length l ≡ 0 = ap length e in omega arith

-- a fault that comes is the judged step's refusal
pub comes_refusal : (lim : Limits) (front : List ℕ) (c : ℕ) (s : State) (f : DocumentRefusal) → Fronts front s → length s.run ≤ lim.text → Comes lim front c f → judged lim (size front) s c ≡ Err f
comes_refusal lim front c s (AtSyntax k) g short h =
    elim (step s c) as (λ (o : Option State). step s c ≡ o → judged lim (size front) s c ≡ Err (AtSyntax k)) [
      | None ↦ λ d. judged_is lim (size front) s c None _ d (ap (λ n. Err (AtSyntax n)) (sym h.0))
      | Some t ↦ λ d. absurd (h.1 (Fronts_viable (front ++ c ∷ []) t (step_more front s t c g d)))
    ] refl
comes_refusal lim front c s (AtDepth k) g short h = elim h.1 [ inl q ↦ of_tag q.0 | inr q ↦ of_attribute q.0 ]
  where
    deep : (is_deep lim s c ≡ true) × (deep_place (size front) s.mode ≡ k)
    deep = deep_true lim front c k s g h

    go : (u : State) → step s c ≡ Some u → u.run ≡ s.run → judged lim (size front) s c ≡ Err (AtDepth k)
    go u d e =
        judged_is lim (size front) s c (Some u) _ d
        (cond-false _ _ _ (le-ltb lim.text (length u.run) (subst (λ l. length l ≤ lim.text) (sym e) short)) ∙ cond-true _ _ _ deep.0 ∙ ap (λ n. Err (AtDepth n)) deep.1)

    of_tag : IsFullTag lim front → judged lim (size front) s c ≡ Err (AtDepth k)
    of_tag w =
        let fs = w.frames in
        let x = w.content in
        let is : state_of fs x less ≡ s = fronts_one front _ s (opens_fronts front fs x less w.opens) g in
        go (state_of fs x (started (c ∷ []))) (sym (ap (λ (u : State). step u c) is) ∙ m_started fs x c h.0 w.may) (ap (λ (u : State). u.run) is)

    of_attribute : IsFullAttribute lim front → judged lim (size front) s c ≡ Err (AtDepth k)
    of_attribute w =
        let fs = w.frames in
        let x = w.content in
        let is : state_of fs x (tag w.name w.ats (spaced w.gap)) ≡ s = fronts_one front _ s (opens_fronts front fs x (tag w.name w.ats (spaced w.gap)) w.opens) g in
        go (state_of fs x (tag w.name w.ats (part_name w.gap (c ∷ [])))) (sym (ap (λ (u : State). step u c) is) ∙ m_attr fs x w.name w.ats w.gap c h.0) (ap (λ (u : State). u.run) is)
comes_refusal lim front c s (AtName k) g short h =
    let r = h.1 in
    let u = state_of r.frames r.content r.piece in
    let d = opens_step front c s r.frames r.content r.piece g r.opens in
    let is = naming_is r.frames r.content r.piece in
    let long : lim.name < length (naming_by u.mode u) = subst (λ l. lim.name < length l) (sym is) r.is in
    let shallow : is_deep lim s c ≡ false = false_from_ne_true (is_deep lim s c) (λ e. h.2 (deep_place (size front) s.mode) (deep_found lim front c s u g d e)) in
    judged_is lim (size front) s c (Some u) _ d
    (cond-false _ _ _ (named_short lim s u c d short (long_some lim (naming_by u.mode u) long)) ∙ cond-false _ _ _ shallow ∙ cond-true _ _ _ (lt-ltb lim.name _ long) ∙ ap (λ n. Err (AtName n)) (sym h.0))
comes_refusal lim front c s (AtText k) g short h =
    let r = h.1 in
    let u = state_of r.frames r.content r.piece in
    let d = opens_step front c s r.frames r.content r.piece g r.opens in
    judged_is lim (size front) s c (Some u) _ d (cond-true _ _ _ (lt-ltb lim.text (length (piece_run r.content r.piece)) r.is) ∙ ap (λ n. Err (AtText n)) (sym h.0))

-- no fault comes where the judged step goes on
pub none_comes : (lim : Limits) (front : List ℕ) (c : ℕ) (s t : State) (f : DocumentRefusal) → Fronts front s → length s.run ≤ lim.text → judged lim (size front) s c ≡ Ok t → Comes lim front c f → ⊥
none_comes lim front c s t f g short e h = apart (sym (comes_refusal lim front c s f g short h) ∙ e)
  where
    apart : ◌≡◌ {A = Result State DocumentRefusal} (Err f) (Ok t) → ⊥
    apart e = cc

pub err_ok : {X : Type 0} (f : DocumentRefusal) (t : State) → Err f ≡ Ok t → X
err_ok f t e = let absurdity : ⊥ = cc in absurd absurdity

ok_err : {X : Type 0} (f : DocumentRefusal) (t : State) → Ok t ≡ Err f → X
ok_err f t e = let absurdity : ⊥ = cc in absurd absurdity

abbrev long_text : Limits → State → Bool
long_text lim t = nat_lt lim.text (length t.run)

abbrev long_name : Limits → State → Bool
long_name lim t = nat_lt lim.name (length (naming_by t.mode t))

abbrev SameErr : DocumentRefusal → DocumentRefusal → Type 0
SameErr g f = ◌≡◌ {A = Result State DocumentRefusal} (Err g) (Err f)

err_is : (g f : DocumentRefusal) → SameErr g f → g ≡ f
err_is g f e = cc

-- which refusal a judged step gives
pub data Why (lim : Limits) (k : ℕ) (s : State) (c : ℕ) (t : State) (f : DocumentRefusal) : Type 0 where
  why_text : long_text lim t ≡ true → AtText k ≡ f → Why lim k s c t f
  why_depth : is_deep lim s c ≡ true → AtDepth (deep_place k s.mode) ≡ f → Why lim k s c t f
  why_name : is_deep lim s c ≡ false → long_name lim t ≡ true → AtName k ≡ f → Why lim k s c t f

why : (lim : Limits) (k : ℕ) (s : State) (c : ℕ) (t : State) (f : DocumentRefusal) → judged_by lim k s c (Some t) ≡ Err f → Why lim k s c t f
why lim k s c t f e = by (long_text lim t) (is_deep lim s c) (long_name lim t) refl refl refl e
  where
    by : (a b d : Bool) → long_text lim t ≡ a → is_deep lim s c ≡ b → long_name lim t ≡ d → cond a (Err (AtText k)) (cond b (Err (AtDepth (deep_place k s.mode))) (cond d (Err (AtName k)) (Ok t))) ≡ Err f → Why lim k s c t f
    by true b d x y z e = why_text x (err_is (AtText k) f e)
    by false true d x y z e = why_depth y (err_is (AtDepth (deep_place k s.mode)) f e)
    by false false true x y z e = why_name y z (err_is (AtName k) f e)
    by false false false x y z e = ok_err f t e

-- a refusal of a judged step is a fault that comes
pub refusal_comes : (lim : Limits) (front : List ℕ) (c : ℕ) (s : State) (f : DocumentRefusal) → Fronts front s → length s.run ≤ lim.text → judged lim (size front) s c ≡ Err f → Comes lim front c f
refusal_comes lim front c s f g short e =
    elim (step s c) as (λ (o : Option State). step s c ≡ o → judged_by lim (size front) s c o ≡ Err f → Comes lim front c f) [
      | None ↦ λ d k. syntax_ f k (step_bad front s c g d)
      | Some t ↦ λ d k. by t d (step_more front s t c g d) (why lim (size front) s c t f k)
    ] refl e
  where
    syntax_ : (f : DocumentRefusal) → SameErr (AtSyntax (size front)) f → (Viable (front ++ c ∷ []) → ⊥) → Comes lim front c f
    syntax_ f e no_more = subst (Comes lim front c) (err_is (AtSyntax (size front)) f e) (refl, no_more)

    opened_by : (t : State) → (n : Fronts (front ++ c ∷ []) t) → OpensFrames (front ++ c ∷ []) n.frames n.content n.piece
    opened_by t n = record { good = n.good; spelled = n.spelled }

    name_of : (t : State) → (n : Fronts (front ++ c ∷ []) t) → naming_by t.mode t ≡ encodes (naming n.piece)
    name_of t n = ap (λ (r : State). naming_by r.mode r) (sym n.state) ∙ naming_is n.frames n.content n.piece

    by : (t : State) → step s c ≡ Some t → Fronts (front ++ c ∷ []) t → Why lim (size front) s c t f → Comes lim front c f
    by t d n (why_depth w q) = subst (Comes lim front c) q (deep_found lim front c s t g d w)
    by t d n (why_name w v q) =
        subst (Comes lim front c) q (
          refl,
          record { frames = n.frames; content = n.content; piece = n.piece; opens = opened_by t n; is = subst (λ l. lim.name < length l) (name_of t n) (ltb-true lim.name (length (naming_by t.mode t)) v) },
          λ j i. false≢true (sym w ∙ (deep_true lim front c j s g i).0),
        )
    by t d n (why_text w q) =
        subst (Comes lim front c) q (
          refl,
          record { frames = n.frames; content = n.content; piece = n.piece; opens = opened_by t n; is = subst (λ (r : State). lim.text < length r.run) (sym n.state) (ltb-true lim.text (length t.run) w) },
          record { frames = g.frames; content = g.content; piece = g.piece; opens = record { good = g.good; spelled = g.spelled }; is = subst (λ (r : State). length r.run ≤ lim.text) (sym g.state) short },
        )

ok_tests : (a b c : Bool) (f g h : DocumentRefusal) (t u : State) → cond a (Err f) (cond b (Err g) (cond c (Err h) (Ok t))) ≡ Ok u → (a ≡ false) × (t ≡ u)
ok_tests true b c f g h t u e = err_ok f u e
ok_tests false true c f g h t u e = err_ok g u e
ok_tests false false true f g h t u e = err_ok h u e
ok_tests false false false f g h t u e = let same : t ≡ u = cc in (refl, same)

-- what a judged step leaves
pub step_ok : (lim : Limits) (front : List ℕ) (c : ℕ) (s t : State) → Fronts front s → judged lim (size front) s c ≡ Ok t → Fronts (front ++ c ∷ []) t × (length t.run ≤ lim.text)
step_ok lim front c s t g e =
    elim (step s c) as (λ (o : Option State). step s c ≡ o → judged_by lim (size front) s c o ≡ Ok t → Fronts (front ++ c ∷ []) t × (length t.run ≤ lim.text)) [
      | None ↦ λ d k. err_ok (AtSyntax (size front)) t k
      | Some u ↦ λ d k.
          let q = ok_tests (long_text lim u) (is_deep lim s c) (long_name lim u) _ _ _ u t k in
          (subst (Fronts (front ++ c ∷ [])) q.1 (step_more front s u c g d), subst (λ (r : State). length r.run ≤ lim.text) q.1 (ltb-false lim.text (length u.run) q.0))
    ] refl e

-- one character more
pub clean_more : (lim : Limits) (b : List ℕ) (c : ℕ) → Clean lim b → ((f : DocumentRefusal) → Comes lim b c f → ⊥) → Clean lim (b ++ (c ∷ []))
clean_more lim b c h k front d rest f e =
    elim (split_last rest front d b c e) [
      | inl q ↦ λ w. k f (subst (λ l. Comes lim l c f) (sym q.0) (subst (λ a. Comes lim front a f) (sym q.1) w))
      | inr q ↦ λ w. h front d q.0 f q.1 w
    ]
  where
    split_last : (rest front : List ℕ) (d : ℕ) (b : List ℕ) (c : ℕ) → b ++ (c ∷ []) ≡ front ++ (d ∷ rest) → ((b ≡ front) × (c ≡ d)) ⊎ ((r : List ℕ) × (b ≡ front ++ (d ∷ r)))
    split_last rest [] d [] c e = let is : c ≡ d = cc in inl (refl, is)
    split_last rest [] d (x ∷ b) c e = let is : x ≡ d = cc in inr (b, ap (λ a. a ∷ b) is)
    split_last rest (y ∷ front) d [] c e = absurd (nothing_behind front (d ∷ rest) (let t : [] ≡ front ++ (d ∷ rest) = cc in t))
      where
        nothing_behind : (front ys : List ℕ) → [] ≡ front ++ (d ∷ rest) → ⊥
        nothing_behind [] ys e = cc
        nothing_behind (z ∷ front) ys e = cc
    split_last rest (y ∷ front) d (x ∷ b) c e =
        let head : x ≡ y = cc in
        let tail : b ++ (c ∷ []) ≡ front ++ (d ∷ rest) = cc in
        elim (split_last rest front d b c tail) [
          | inl q ↦ inl (ap (λ l. x ∷ l) q.0 ∙ ap (λ a. a ∷ front) head, q.1)
          | inr q ↦ inr (q.0, ap (λ l. x ∷ l) q.1 ∙ ap (λ a. a ∷ (front ++ (d ∷ q.0))) head)
        ]

-- a reader that has met no fault
pub record Reads (lim : Limits) (b : List ℕ) (s : State) : Type 0 where
  pub front : Fronts b s
  pub clean : Clean lim b
  pub short : length s.run ≤ lim.text

pub reads_more : (lim : Limits) (b : List ℕ) (c : ℕ) (s t : State) → Reads lim b s → judged lim (size b) s c ≡ Ok t → Reads lim (b ++ c ∷ []) t
reads_more lim b c s t r e =
    let k = step_ok lim b c s t r.front e in
    record { front = k.0; clean = clean_more lim b c r.clean (λ f. none_comes lim b c s t f r.front r.short e); short = k.1 }

-- what judged steps say of the bytes: no fault, or the one that comes first
abbrev pub Said : Limits → List ℕ → Result State DocumentRefusal → Type 0
Said lim b (Ok t) = Reads lim b t
Said lim b (Err f) = ComesFirst lim b f

pub judged_says : (lim : Limits) (b : List ℕ) (s : State) (cs : List ℕ) → Reads lim b s → Said lim (b ++ cs) (judged_steps lim (size b) s cs)
judged_says lim b s [] r = subst (λ l. Reads lim l s) (sym (append-nil b)) r
judged_says lim b s (c ∷ cs) r =
    elim (judged lim (size b) s c) as (λ (q : Result State DocumentRefusal). judged lim (size b) s c ≡ q → Said lim (b ++ (c ∷ cs)) (on_ok q (λ t. judged_steps lim (size b + len_utf8 c) t cs))) [
      | Err f ↦ λ e. record { front = b; at = c; rest = cs; parts = refl; clean = r.clean; comes = refusal_comes lim b c s f r.front r.short e }
      | Ok t ↦ λ e.
          let m = judged_says lim (b ++ c ∷ []) t cs (reads_more lim b c s t r e) in
          subst (λ l. Said lim l (judged_steps lim (size b + len_utf8 c) t cs)) (append_assoc b (c ∷ []) cs)
          (subst (λ n. Said lim ((b ++ c ∷ []) ++ cs) (judged_steps lim n t cs)) (size_more b c) m)
    ] refl

nothing_behind : (front : List ℕ) (c : ℕ) (rest : List ℕ) → [] ≡ front ++ (c ∷ rest) → ⊥
nothing_behind [] c rest e = cc
nothing_behind (x ∷ front) c rest e = cc

pub start_reads : (lim : Limits) → Reads lim [] start
start_reads lim = record { front = start_fronts; clean = λ front c rest f e h. nothing_behind front c rest e; short = omega arith }

-- the judged steps say which fault comes first
pub judged_tells : (lim : Limits) (b : List ℕ) → Told lim b (judged_steps lim 0 start b)
judged_tells lim b = by (judged_steps lim 0 start b) (judged_says lim [] start b (start_reads lim))
  where
    by : (r : Result State DocumentRefusal) → Said lim b r → Told lim b r
    by (Ok t) h = h.clean
    by (Err f) h = h
