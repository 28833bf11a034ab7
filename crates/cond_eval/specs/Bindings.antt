-- What variables are bound to, as a contract sees it (this project's).
use Rattle.std.specs.Prelude.{ℕ, suc, List, [], ◌∷◌, Option, Some, None}
use Rattle.std.specs.Ordering.{nat_cmp}
use Rattle.std.specs.FinMap as map
use Rattle.cond_eval.specs.declared.env.Bound.{Bound}

-- from variables to pairs of a place and a serial
abbrev pub Bindings : Type 0
Bindings = map.FinMap nat_cmp (ℕ × ℕ)

-- those of the variables from x on
abbrev pub pairs_from : (x : ℕ) → List (Option Bound) → List (ℕ × (ℕ × ℕ))
pairs_from x [] = []
pairs_from x (None ∷ bs) = pairs_from (suc x) bs
pairs_from x (Some b ∷ bs) = (x, (b.place.0, b.serial.0)) ∷ pairs_from (suc x) bs

abbrev pub bindings : List (Option Bound) → Bindings
bindings bs = map.from_entries (pairs_from 0 bs)
