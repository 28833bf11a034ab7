-- The own roles of variables (this project's).
use Rattle.std.specs.Prelude.{ℕ, suc, cond, List, [], ◌∷◌}
use Rattle.gcx_model.specs.Core.{RoleRowTree}
use Rattle.gcx_model.specs.Placed.{is_own_kind}

-- the numbers of the roles Own in these rows, the first of which has the number k
abbrev pub own_list : (k : ℕ) → List RoleRowTree → List ℕ
own_list k [] = []
own_list k (r ∷ rs) = cond (is_own_kind r.kind) (k ∷ own_list (suc k) rs) (own_list (suc k) rs)
