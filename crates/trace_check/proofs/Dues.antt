-- Actions whose times never fall: those that are due are the first ones.
use Rattle.std.proofs.Common.{◌≡◌, ℕ, zero, suc, ◌<◌, ◌≤◌, Bool, true, false, cond, List, [], ◌∷◌, ◌++◌, length, map, get_or, refl, sym, ◌∙◌, ap, inl, inr, arith, leb}
use Rattle.std.specs.List.{filter}
use Rattle.std.proofs.lemmas.Bool.{cases_lt, le-leb, lt-leb}
use Rattle.std.proofs.lemmas.List.{get_or-map, length-map}
use Rattle.gcx_model.specs.Members.{In}
use Rattle.gcx_model.specs.Run.{Action}
use Rattle.tree_laws.proofs.Lists.{filter_none}
use Rattle.time_laws.specs.Laws.{NeverFall}
use Rattle.time_laws.specs.Times.{TimedAction, act_of, due, is_due}
use Rattle.trace_check.specs.Acting.{ShownAct, seen, shown}
use Rattle.trace_check.specs.declared.acts.TimedAct as code
use Rattle.trace_check.proofs.Numbers.{in_at}

due_head : (j : ℕ) (a : TimedAction) (T : List TimedAction) → a.at ≤ j → due j (a ∷ T) ≡ act_of a ∷ due j T
due_head j a T l = ap (λ (b : Bool). map act_of (cond b (a ∷ filter (is_due j) T) (filter (is_due j) T))) (le-leb a.at j l)

-- an action that is possible by then is the one of its number among those that are due
pub due_at : (T : List TimedAction) → NeverFall T → (j m : ℕ) (d : TimedAction) → m < length T → (get_or T m d).at ≤ j
    → (m < length (due j T)) × (get_or (due j T) m (act_of d) ≡ act_of (get_or T m d))
due_at [] h j m d l e = absurd (omega (arith, l))
due_at (a ∷ T) h j zero d l e = let more = due_head j a T e in ((let n = ap length more in omega (arith, n)), ap (λ (x : List Action). get_or x 0 (act_of d)) more)
due_at (a ∷ T) h j (suc m) d l e =
    let first = h.0 (get_or T m d) (in_at T m d (omega (arith, l))) in
    let more = due_head j a T (omega (arith, first, e)) in
    let r = due_at T h.1 j m d (omega (arith, l)) e in (
      (let n = ap length more in let k = r.0 in omega (arith, n, k)),
      ap (λ (x : List Action). get_or x (suc m) (act_of d)) more ∙ r.1,
    )

none_due : (T : List TimedAction) (j : ℕ) → ((a : TimedAction) → In a T → j < a.at) → due j T ≡ []
none_due T j h = ap (map act_of) (filter_none (is_due j) T (λ a i. lt-leb a.at j (h a i)))

-- where the next one is later, no more are due
pub due_end : (T : List TimedAction) → NeverFall T → (j m : ℕ) (d : TimedAction) → (m < length T → j < (get_or T m d).at) → length (due j T) ≤ m
due_end [] h j m d late = omega arith
due_end (a ∷ T) h j zero d late =
    let first : j < a.at = late (omega arith) in
    let none = none_due (a ∷ T) j (λ b i. elim i [ inl e ↦ (let f = ap (λ (x : TimedAction). x.at) e in omega (arith, f, first)) | inr k ↦ (let l = h.0 b k in omega (arith, l, first)) ]) in
    let n = ap length none in
    omega (arith, n)
due_end (a ∷ T) h j (suc m) d late = go (leb a.at j) (due_end T h.1 j m d (λ l. late (omega (arith, l))))
  where
    go : (b : Bool) → length (due j T) ≤ m → length (map act_of (cond b (a ∷ filter (is_due j) T) (filter (is_due j) T))) ≤ suc m
    go true n = omega (arith, n)
    go false n = omega (arith, n)

-- the actions that are due at a time are the first of those that are due later
pub due_front : (T : List TimedAction) → NeverFall T → (j k : ℕ) → j ≤ k → (rest : List Action) × (due k T ≡ due j T ++ rest)
due_front [] h j k l = ([], refl)
due_front (a ∷ T) h j k l = elim (cases_lt j a.at) [
  | inl late ↦ (let none = none_due (a ∷ T) j (λ b i. elim i [ inl e ↦ (let f = ap (λ (x : TimedAction). x.at) e in omega (arith, f, late)) | inr m ↦ (let n = h.0 b m in omega (arith, n, late)) ]) in
      (due k (a ∷ T), ap (λ (xs : List Action). xs ++ due k (a ∷ T)) (sym none)))
  | inr now ↦ (let r = due_front T h.1 j k l in
      (r.0, due_head k a T (omega (arith, now, l)) ∙ (ap (λ (xs : List Action). act_of a ∷ xs) r.1 ∙ ap (λ (xs : List Action). xs ++ r.0) (sym (due_head j a T now)))))
]

-- ---- actions as they are kept

pub kept_many : (acts : List code.TimedAct) (T : List TimedAction) → map shown acts ≡ map seen T → length acts ≡ length T
kept_many acts T e = sym (length-map acts shown) ∙ (ap length e ∙ length-map T seen)

pub kept_at : (acts : List code.TimedAct) (T : List TimedAction) → map shown acts ≡ map seen T → (m : ℕ) (x : code.TimedAct) (d : TimedAction) → m < length acts
    → shown (get_or acts m x) ≡ seen (get_or T m d)
kept_at acts T e m x d l =
    sym (get_or-map shown acts m x (shown x) l)
    ∙ (ap (λ (s : List ShownAct). get_or s m (shown x)) e ∙ get_or-map seen T m d (shown x) (let n = kept_many acts T e in omega (arith, l, n)))
