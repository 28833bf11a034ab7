-- This follows the code, for its proofs: no public clause speaks of it.
-- Bindings of names to variables as the names of a scope.
use Rattle.std.specs.Prelude.{ℕ, cond, List, [], ◌∷◌, bytes_eq}
use Rattle.gcx_model.specs.Normal.{Names}
use Rattle.xq_normal.specs.declared.scope.Binding.{Binding}

-- the variable of the last binding of the name
abbrev pub bound_in : ℕ → List ℕ → List Binding → ℕ
bound_in v y [] = v
bound_in v y (b ∷ bs) = bound_in (cond (bytes_eq b.name.now y) b.var.0 v) y bs

-- a name without a binding stands for variable 0
abbrev pub names_of : List Binding → Names
names_of bs = λ y. bound_in 0 y bs
