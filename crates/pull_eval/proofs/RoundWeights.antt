-- How the weight of a position falls with the rounds of a loop.
use Rattle.std.proofs.Common.{◌≡◌, ◌<◌, ◌≤◌, ◌+◌, ◌*◌, suc, ℕ, Bool, true, false, cond, ltb, List, [], ◌∷◌, length, refl, ap, inl, inr, arith}
use Rattle.std.specs.List.{filter}
use Rattle.std.proofs.lemmas.Bool.{ltb-true, lt-ltb}
use Rattle.std.proofs.Math.Nat.{mul-le-mul_right}
use Rattle.gcx_base.specs.declared.steps.Step.{Step}
use Rattle.gcx_model.specs.Members.{In}
use Rattle.node_store.specs.declared.store.Place.{Place}
use Rattle.buf_tree.specs.Shape.{Cell, num}
use Rattle.buf_tree.specs.View.{View, serial_at}
use Rattle.buf_tree.proofs.Seeking.{rows_fewer, fewer}
use Rattle.pull_eval.specs.Weight.{rows_behind, rounds_left}
use Rattle.pull_eval.specs.Rounds.{Learnt}
use Rattle.pull_eval.specs.declared.block.Next.{Next}
use Rattle.pull_eval.specs.declared.block.Next.TheVariants.{Unsought, Found, NoneUpTo}

-- no more rows are behind a greater serial
pub behind_least : (rows : List Cell) (s t : ℕ) → s ≤ t → rows_behind t rows ≤ rows_behind s rows
behind_least rows s t l = fewer (λ c. ltb t (num c)) (λ c. ltb s (num c)) rows (λ c e. let k = ltb-true t (num c) e in lt-ltb s (num c) (omega arith))

-- and fewer behind that of a row
pub behind_fewer : (rows : List Cell) (s : ℕ) (c : Cell) → In c rows → s < num c → rows_behind (num c) rows < rows_behind s rows
behind_fewer rows s c i l = rows_fewer rows s (num c) c i refl l

all_kept : (xs : List Cell) (p : Cell → Bool) → length (filter p xs) ≤ length xs
all_kept [] p = omega arith
all_kept (x ∷ xs) p = go (p x) (all_kept xs p)
  where
    go : (b : Bool) → length (filter p xs) ≤ length xs → length (cond b (x ∷ filter p xs) (filter p xs)) ≤ suc (length xs)
    go true k = omega arith
    go false k = omega arith

-- a row isn't behind itself
pub behind_few : (rows : List Cell) (c : Cell) → In c rows → rows_behind (num c) rows < length rows
behind_few [] c i = absurd i
behind_few (x ∷ xs) c i = go (ltb (num c) (num x)) refl i (λ j. behind_few xs c j)
  where
    go : (b : Bool) → ltb (num c) (num x) ≡ b → In c (x ∷ xs) → (In c xs → rows_behind (num c) xs < length xs)
        → length (cond b (x ∷ filter (λ d. ltb (num c) (num d)) xs) (filter (λ d. ltb (num c) (num d)) xs)) < suc (length xs)
    go true e (inl f) ih = let k = ltb-true (num c) (num x) e in let g : num x ≡ num c = ap num f in absurd (omega arith)
    go true e (inr j) ih = let k = ih j in omega arith
    go false e j ih = let k = all_kept xs (λ d. ltb (num c) (num d)) in omega arith

-- The rounds that are left behind the row of a match, whatever is known of the next one.
pub learnt_left : (v : View) (c d : Cell) (s : Step) (present : Place) (next : Next) → In d v.rows → num d < v.nodes → serial_at present.0 v.rows ≡ num d → Learnt v c s (num d) next
    → rounds_left v.rows present next ≤ rows_behind (num d) v.rows
learnt_left v c d s present Unsought i l e h = let f = ap (λ (z : ℕ). rows_behind z v.rows) e in omega arith
learnt_left v c d s present (Found p) i l e h =
    let f : serial_at p.0 v.rows ≡ num h.first.cell = h.serial in
    let g : rows_behind (serial_at p.0 v.rows) v.rows ≡ rows_behind (num h.first.cell) v.rows = ap (λ (z : ℕ). rows_behind z v.rows) f in
    let k = behind_fewer v.rows (num d) h.first.cell h.first.reached.among h.first.reached.behind in
    omega arith
learnt_left v c d s present (NoneUpTo u) i l e h = let f : suc u.0 ≡ v.nodes = h.1 in behind_least v.rows (num d) u.0 (omega arith)

-- One round more weighs no more than one row more does, for a body of the weight w.
pub round_falls : (left all w : ℕ) → left < all → suc (w + left * suc w) ≤ all * suc w
round_falls left all w l = let k = mul-le-mul_right {m = suc left} {n = all} (suc w) l in omega arith
