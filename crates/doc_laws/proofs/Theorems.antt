-- The laws of the machine and of the grammar.
use Rattle.std.proofs.Common.{ℕ, ◌≡◌, Bool, true, false, ◌||◌, ◌&&◌, cond, List, [], ◌∷◌, ◌++◌, Option, Some, None, refl, sym, ap, ◌∙◌, subst, append_assoc, append-nil, ◌↔◌}
use Rattle.std.proofs.lemmas.Bool.{false≢true, and_parts, and_from}
use Rattle.gcx_model.specs.Document.{Nodes, none, element, text, tokens}
use Rattle.gcx_model.specs.Tree.{TreeToken, Start, End, Chars}
use Rattle.gcx_model.specs.Grammar.{Content, nothing, spelling, has_element, nodes, SpellsDocument, Viable}
use Rattle.gcx_model.specs.Fronts.{Frames, bottom, frame, Part, no_part, spaced, part_name, name_spaced, equals, value_part, value_amp, Piece, no_piece, tag, front_spelling, IsFront, OpensFrames}
use Rattle.doc_laws.specs.Machine.{MachineMode, Opening, Between, State, start, steps, step, go_on, is_whole, is_between}
use Rattle.doc_laws.specs.States.{part_mode, is_nothing, rest_mode, piece_mode, state_of, Fronts}
use Rattle.doc_laws.proofs.Moves.{steps_append}
use Rattle.doc_laws.proofs.Reached.{front_steps, content_steps}
use Rattle.doc_laws.proofs.Fronts.{some_is, none_some, step_front, front_viable}

-- one step more
pub step_more : (b : List ℕ) (s t : State) (c : ℕ) → Fronts b s → step s c ≡ Some t → Fronts (b ++ (c ∷ [])) t
step_more b s t c f e =
    let g = step_front f.frames f.content f.piece c t f.good (ap (λ u. step u c) f.state ∙ e) in
    record { frames = g.frames; content = g.content; piece = g.piece; good = g.good; spelled = g.spelled ∙ ap (λ l. l ++ (c ∷ [])) f.spelled; state = g.state }

pub steps_more : (b : List ℕ) (s t : State) (a : List ℕ) → Fronts b s → steps s a ≡ Some t → Fronts (b ++ a) t
steps_more b s t [] f e = record { frames = f.frames; content = f.content; piece = f.piece; good = f.good; spelled = f.spelled ∙ sym (append-nil b); state = f.state ∙ some_is s t e }
steps_more b s t (c ∷ a) f e =
    elim (step s c) as (λ (o : Option State). step s c ≡ o → Fronts (b ++ (c ∷ a)) t) [
      | None ↦ λ d. none_some t (sym (ap (λ o. go_on o (λ u. steps u a)) d) ∙ e)
      | Some u ↦ λ d.
          let g = steps_more (b ++ (c ∷ [])) u t a (step_more b s u c f d) (sym (ap (λ o. go_on o (λ v. steps v a)) d) ∙ e) in
          record { frames = g.frames; content = g.content; piece = g.piece; good = g.good; spelled = g.spelled ∙ append_assoc b (c ∷ []) a; state = g.state }
    ] refl

pub start_fronts : Fronts [] start
start_fronts = record { frames = bottom; content = nothing; piece = no_piece; good = (tt, tt, tt); spelled = refl; state = refl }

-- what leads to a state is a front
pub fronts : (b : List ℕ) (s : State) → steps start b ≡ Some s → Fronts b s
fronts b s e = steps_more [] start s b start_fronts e

-- a front leads to its state
pub fronts_lead : (b : List ℕ) (s : State) → Fronts b s → steps start b ≡ Some s
fronts_lead b s f = ap (steps start) (sym f.spelled) ∙ front_steps f.frames f.content f.piece f.good ∙ ap Some f.state

pub Fronts_viable : (b : List ℕ) (s : State) → Fronts b s → Viable b
Fronts_viable b s f = subst Viable f.spelled (front_viable f.frames f.content f.piece f.good)

-- a document is read whole
pub spells_leads : (b : List ℕ) (d : Nodes) → (h : SpellsDocument b d) → steps start b ≡ Some (state_of bottom h.content no_piece)
spells_leads b d h = ap (steps start) (sym h.spelled) ∙ content_steps bottom h.content h.good

-- what is viable is read
pub viable_leads : (b : List ℕ) → Viable b → (s : State) × (steps start b ≡ Some s)
viable_leads b v = lead (steps start b) refl
  where
    lead : (o : Option State) → steps start b ≡ o → (s : State) × (steps start b ≡ Some s)
    lead (Some s) e = (s, e)
    lead None e = none_some _ (sym (ap (λ o. go_on o (λ u. steps u v.more)) e) ∙ sym (steps_append start b v.more) ∙ spells_leads (b ++ v.more) v.document v.spelled)

-- one more character that is no step makes it not viable
pub step_bad : (b : List ℕ) (s : State) (c : ℕ) → Fronts b s → step s c ≡ None → Viable (b ++ (c ∷ [])) → ⊥
step_bad b s c f e v =
    let l = viable_leads (b ++ (c ∷ [])) v in
    let m = steps_append start b (c ∷ []) ∙ ap (λ o. go_on o (λ u. steps u (c ∷ []))) (fronts_lead b s f) ∙ ap (λ o. go_on o (λ u. steps u [])) e in
    none_some l.0 (sym m ∙ l.1)

-- a refusal is the first fault: the characters before it are viable, and with it they aren't
pub refused : (b : List ℕ) (s : State) (c : ℕ) → steps start b ≡ Some s → step s c ≡ None → Viable b × (Viable (b ++ (c ∷ [])) → ⊥)
refused b s c e h = let f = fronts b s e in (Fronts_viable b s f, step_bad b s c f h)

part_within : (p : Part) → is_between (part_mode p) ≡ false
part_within no_part = refl
part_within (spaced g) = refl
part_within (part_name g m) = refl
part_within (name_spaced g m sp) = refl
part_within (equals g m sp sp2) = refl
part_within (value_part h v) = refl
part_within (value_amp h v r) = refl

-- a root is something
something : (x : Content) → has_element x ≡ true → is_nothing x ≡ false
something nothing h = absurd (false≢true h)
something x h = refl

-- at the end: whole is a document, and no other
pub whole_spells : (b : List ℕ) (s : State) → Fronts b s → is_whole s ≡ true → (d : Nodes) × SpellsDocument b d × (s.tokens ≡ tokens d)
whole_spells b s f h = by f.frames f.content f.piece f.good f.spelled f.state (ap is_whole f.state ∙ h)
  where
    root : (b : Bool) → b || false ≡ true → b ≡ true
    root true e = refl
    root false e = e

    by : (fs : Frames) (x : Content) (p : Piece) → IsFront fs x p → front_spelling fs x p ≡ b → state_of fs x p ≡ s → is_whole (state_of fs x p) ≡ true → (d : Nodes) × SpellsDocument b d × (s.tokens ≡ tokens d)
    by bottom x no_piece g e i w =
        (nodes x, record { content = x; good = g.1; root = root (has_element x) (and_parts (is_between (rest_mode bottom x)) (has_element x || false) w).1; spelled = sym (append-nil (spelling x)) ∙ e; tree = refl }, ap (λ t. t.tokens) (sym i))
    by (frame fs y n ats sp) x p g e i w = absurd (false≢true (and_parts (is_between (piece_mode (frame fs y n ats sp) x p)) false w).1)
    by bottom x (tag n ats p) g e i w = absurd (false≢true (sym (part_within p) ∙ (and_parts (is_between (part_mode p)) (has_element x || false) w).0))
    by bottom x p g e i w = absurd (false≢true w)

pub not_whole : (b : List ℕ) (s : State) (d : Nodes) → Fronts b s → is_whole s ≡ false → SpellsDocument b d → ⊥
not_whole b s d f h sp =
    let x = sp.content in
    let e : s ≡ state_of bottom x no_piece = some_is _ _ (sym (fronts_lead b s f) ∙ spells_leads b d sp) in
    let rest : is_between (rest_mode bottom x) ≡ true = ap (λ b. is_between (rested b)) (something x sp.root) in
    let w : is_whole (state_of bottom x no_piece) ≡ true = and_from (is_between (rest_mode bottom x)) (has_element x || false) rest (ap (λ r. r || false) sp.root) in
    false≢true (sym h ∙ ap is_whole e ∙ w)
  where
    rested : Bool → MachineMode
    rested b = cond (b && true) Opening Between

-- the tree of tokens
abbrev build : List (Nodes × List ℕ) → Nodes → List TreeToken → Nodes
build st ns [] = ns
build st ns (Start n ∷ ts) = build ((ns, n) ∷ st) none ts
build [] ns (End ∷ ts) = ns
build ((before, n) ∷ st) ns (End ∷ ts) = build st (element before n ns) ts
build st ns (Chars t ∷ ts) = build st (text ns t) ts

build_tokens : (d : Nodes) (st : List (Nodes × List ℕ)) (rest : List TreeToken) → build st none (tokens d ++ rest) ≡ build st d rest
build_tokens none st rest = refl
build_tokens (element before n inner) st rest =
    ap (build st none) (append_assoc (tokens before) _ rest)
    ∙ build_tokens before st _
    ∙ ap (build ((before, n) ∷ st) none) (append_assoc (tokens inner) (End ∷ []) rest)
    ∙ build_tokens inner ((before, n) ∷ st) (End ∷ rest)
build_tokens (text before t) st rest =
    ap (build st none) (append_assoc (tokens before) (Chars t ∷ []) rest)
    ∙ build_tokens before st (Chars t ∷ rest)

pub tokens_one : (d e : Nodes) → tokens d ≡ tokens e → d ≡ e
tokens_one d e h = sym (build_tokens d [] []) ∙ ap (λ ts. build [] none (ts ++ [])) h ∙ build_tokens e [] []

-- a text spells one document at most
pub spells_one : (b : List ℕ) (d e : Nodes) → SpellsDocument b d → SpellsDocument b e → d ≡ e
spells_one b d e h k =
    let s = some_is _ _ (sym (spells_leads b d h) ∙ spells_leads b e k) in
    tokens_one d e (ap tokens (sym h.tree) ∙ ap (λ t. t.tokens) s ∙ ap tokens k.tree)

-- fronts and viable texts are the same
pub opens_viable : (cs : List ℕ) (fs : Frames) (x : Content) (p : Piece) → OpensFrames cs fs x p → Viable cs
opens_viable cs fs x p o = subst Viable o.spelled (front_viable fs x p o.good)

pub viable_opens : (cs : List ℕ) → Viable cs → (fs : Frames) × (x : Content) × (p : Piece) × OpensFrames cs fs x p
viable_opens cs v =
    let l = viable_leads cs v in
    let f = fronts cs l.0 l.1 in
    (f.frames, f.content, f.piece, record { good = f.good; spelled = f.spelled })

pub steps_fronts : (cs : List ℕ) (s : State) → (steps start cs ≡ Some s) ↔ Fronts cs s
steps_fronts cs s = (fronts cs s, fronts_lead cs s)
