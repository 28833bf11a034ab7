-- The roles of a core (this project's profile of ICDE 2007).
use Rattle.std.specs.Prelude.{ℕ, List, [], ◌∷◌, ◌++◌}
use Rattle.gcx_model.specs.Core.{OperandTree, Path, Str, Num, CondTree, CondTrees, Always, Exists, Compare, Not, AllOf, AnyOf, no_cond, more_conds, Own, First, Whole, ItemTree, Write, Copy, For, If, SignOff, BodyTree, Nil, Then, RoleRowTree}

abbrev pub own_row : ℕ → RoleRowTree
own_row x = record { var = x; tail = []; kind = Own }

abbrev pub whole_row : ℕ → RoleRowTree
whole_row x = record { var = x; tail = []; kind = Whole }

abbrev pub operand_rows : OperandTree → List RoleRowTree
operand_rows (Path x steps) = record { var = x; tail = steps; kind = Whole } ∷ []
operand_rows (Str b) = []
operand_rows (Num l) = []

abbrev mutual
  pub cond_rows : CondTree → List RoleRowTree
  cond_rows Always = []
  cond_rows (Exists x steps) = record { var = x; tail = steps; kind = First } ∷ []
  cond_rows (Compare l rel r) = operand_rows l ++ operand_rows r
  cond_rows (Not c) = cond_rows c
  cond_rows (AllOf cs) = conds_rows cs
  cond_rows (AnyOf cs) = conds_rows cs

  pub conds_rows : CondTrees → List RoleRowTree
  conds_rows no_cond = []
  conds_rows (more_conds c cs) = cond_rows c ++ conds_rows cs

-- the rows of a body, as it is read from the left
abbrev mutual
  pub item_rows : ItemTree → List RoleRowTree
  item_rows (Write b) = []
  item_rows (Copy x) = whole_row x ∷ []
  item_rows (For x y s d) = own_row x ∷ rows d
  item_rows (If c a b) = cond_rows c ++ (rows a ++ rows b)
  item_rows (SignOff o) = []

  pub rows : BodyTree → List RoleRowTree
  rows Nil = []
  rows (Then i d) = item_rows i ++ rows d

-- Roles: the rows by their numbers
abbrev pub roles_of : BodyTree → List RoleRowTree
roles_of core = own_row 0 ∷ rows core
