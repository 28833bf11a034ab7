-- What a leap tells of a loop's matches: of the first one, and of that with which a round goes on.
use Rattle.std.proofs.Common.{◌≡◌, ◌<◌, ◌≤◌, ◌⊎◌, ℕ, List, [], ◌∷◌, ◌++◌, Some, None, refl, sym, ap, subst, inl, inr, arith}
use Rattle.std.specs.Prelude.{nat_lt}
use Rattle.std.proofs.lemmas.Bool.{ltb-true, lt-ltb, cases_lt}
use Rattle.gcx_base.specs.declared.ids.Serial.{Serial}
use Rattle.gcx_model.specs.Tree.{Node, serial_of}
use Rattle.gcx_model.specs.Members.{In}
use Rattle.gcx_model.specs.Nodes.{Rising}
use Rattle.gcx_model.specs.Points.{later}
use Rattle.tree_laws.proofs.Lists.{In-filter, In-kept, In-left, In-right}
use Rattle.tree_laws.proofs.Departures.{rising_filter}
use Rattle.node_store.specs.declared.store.Place.{Place}
use Rattle.buf_tree.specs.Shape.{Cell}
use Rattle.cond_eval.specs.Asking.{PlacedAt}
use Rattle.cond_eval.proofs.RowSteps.{least_first}
use Rattle.pull_eval.specs.Weight.{rows_behind}
use Rattle.pull_eval.specs.Turns.{Leaps}
use Rattle.pull_eval.specs.Leaps.{IsFirstAt, PassedFrom, TurnsAt}
use Rattle.pull_eval.specs.declared.turns.Leap.{Leap}
use Rattle.pull_eval.specs.declared.turns.Leap.TheVariants.{Stay, To, Over}
use Rattle.pull_eval.proofs.RoundWeights.{behind_least}

-- what holds of those that are passed may be less
pub leaps_weaken : (rows : List Cell) (ms : List Node) (p q : Node → Type 0) (from : ℕ) (l : Leap) → ((j : Node) → In j ms → p j → q j) → Leaps rows ms p from l → Leaps rows ms q from l
leaps_weaken rows ms p q from Stay f h = tt
leaps_weaken rows ms p q from (To r) f h = (h.0, h.1, h.2, h.3, λ j i a b. f j i (h.4 j i a b))
leaps_weaken rows ms p q from Over f h = λ j i a. f j i (h j i a)

-- ---- the first match

module _ (rows : List Cell) (ms : List Node) (rise : Rising ms) (quiet : Node → Type 0) where
  pub first_to : (p : Place) → Leaps rows ms (PassedFrom None quiet) 0 (To p) → IsFirstAt rows ms (Some p)
  first_to p h = let f = least_first ms h.0 rise h.1 (λ j i. go j i (cases_lt (serial_of j) (serial_of h.0))) in (h.0, f.0, f.1, h.3)
    where
      go : (j : Node) → In j ms → (serial_of j < serial_of h.0) ⊎ (serial_of h.0 ≤ serial_of j) → serial_of h.0 ≤ serial_of j
      go j i (inl l) = absurd (h.4 j i (omega arith) l)
      go j i (inr l) = l

  pub first_over : Leaps rows ms (PassedFrom None quiet) 0 Over → IsFirstAt rows ms None
  first_over h = go ms h
    where
      go : (ns : List Node) → ((j : Node) → In j ns → 0 ≤ serial_of j → ⊥) → ns ≡ []
      go [] h = refl
      go (x ∷ xs) h = absurd (h x (inl refl) (omega arith))

-- ---- the match with which a round goes on

-- a match, with those before it and behind it
split_at : (m : Node) (xs : List Node) → In m xs → (pre : List Node) × (post : List Node) × (xs ≡ pre ++ m ∷ post)
split_at m [] i = absurd i
split_at m (x ∷ xs) (inl e) = ([], xs, ap (λ (z : Node). z ∷ xs) e)
split_at m (x ∷ xs) (inr i) = let s = split_at m xs i in (x ∷ s.0, s.1, ap (λ (z : List Node). x ∷ z) s.2)

before_lower : (pre : List Node) (m : Node) (post : List Node) → Rising (pre ++ m ∷ post) → (j : Node) → In j pre → serial_of j < serial_of m
before_lower [] m post r j i = absurd i
before_lower (x ∷ pre) m post r j (inl e) = subst (λ (z : Node). serial_of z < serial_of m) e (r.0 m (In-right m pre (m ∷ post) (inl refl)))
before_lower (x ∷ pre) m post r j (inr i) = before_lower pre m post r.1 j i

least_head : (x : Node) (xs : List Node) → Rising (x ∷ xs) → (j : Node) → In j (x ∷ xs) → serial_of x ≤ serial_of j
least_head x xs r j (inl e) = let f = ap serial_of e in omega arith
least_head x xs r j (inr i) = let l = r.0 j i in omega arith

module _ (rows : List Cell) (ms : List Node) (rise : Rising ms) (n m : Node) (rest : List Node) (next : later n ms ≡ m ∷ rest) (quiet : Node → Type 0) (closed : Type 0) (from : Serial) (same : from.0 ≡ serial_of m) where
  rise_later : Rising (later n ms)
  rise_later = rising_filter (λ j. nat_lt (serial_of n) (serial_of j)) ms rise

  -- the later matches don't stand before the next one
  later_high : (j : Node) → In j (later n ms) → serial_of m ≤ serial_of j
  later_high j i = least_head m rest (subst Rising next rise_later) j (subst (λ (z : List Node). In j z) next i)

  later_among : (j : Node) → In j (later n ms) → In j ms
  later_among j i = (In-filter (λ q. nat_lt (serial_of n) (serial_of q)) j ms i).0

  next_behind : serial_of n < serial_of m
  next_behind = ltb-true (serial_of n) (serial_of m) (In-filter (λ q. nat_lt (serial_of n) (serial_of q)) m ms (subst (λ (z : List Node). In m z) (sym next) (inl refl))).1

  pub turns_to : (p : Place) → Leaps rows ms (PassedFrom (Some from) quiet) from.0 (To p) → (left : ℕ) → rows_behind (serial_of m) rows < left → TurnsAt rows (later n ms) quiet closed left (Some p)
  turns_to p h left l =
      let low = next_behind in
      let high : serial_of m ≤ serial_of h.0 = (let a = h.2 in omega arith) in
      let i : In h.0 (later n ms) = In-kept (λ q. nat_lt (serial_of n) (serial_of q)) h.0 ms h.1 (lt-ltb (serial_of n) (serial_of h.0) (omega arith)) in
      let s = split_at h.0 (later n ms) i in
      let few = behind_least rows (serial_of m) (serial_of h.0) high in (
        s.0,
        h.0,
        s.1,
        s.2,
        λ j k.
            (let in_later : In j (later n ms) = subst (λ (z : List Node). In j z) (sym s.2) (In-left j s.0 (h.0 ∷ s.1) k) in
            let above = later_high j in_later in
            h.4 j (later_among j in_later) (omega arith) (before_lower s.0 h.0 s.1 (subst Rising s.2 rise_later) j k)),
        h.3,
        omega arith,
      )

  pub turns_over : Leaps rows ms (PassedFrom (Some from) quiet) from.0 Over → closed → (left : ℕ) → TurnsAt rows (later n ms) quiet closed left None
  turns_over h c left = inr ((λ j i. (let above = later_high j i in h j (later_among j i) (omega arith))), c)

  pub turns_stay : (p : Place) → PlacedAt rows (serial_of m) p.0 → (left : ℕ) → rows_behind (serial_of m) rows < left → TurnsAt rows (later n ms) quiet closed left (Some p)
  turns_stay p at left l = ([], m, rest, next, (λ j i. absurd i), at, l)
