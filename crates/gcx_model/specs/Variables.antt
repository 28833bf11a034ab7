-- The variable tree of a core (this project's profile of ICDE 2007).
use Rattle.std.specs.Prelude.{ℕ, Bool, true, false, cond, ◌&&◌, List, [], ◌∷◌, ◌++◌, map, ◌==◌}
use Rattle.gcx_base.specs.declared.steps.Axis.{Axis}
use Rattle.gcx_base.specs.declared.steps.Axis.TheVariants.{Child, Descendant}
use Rattle.gcx_base.specs.declared.steps.Step.{Step}
use Rattle.gcx_model.specs.Core.{ItemTree, Write, Copy, For, If, SignOff, BodyTree, Nil, Then, VarRowTree}

abbrev pub is_child : Axis → Bool
is_child Child = true
is_child Descendant = false

abbrev pub all_child : List Step → Bool
all_child [] = true
all_child (s ∷ rest) = is_child s.axis && all_child rest

-- at most one of the steps is a descendant step
abbrev pub one_desc : List Step → Bool
one_desc [] = true
one_desc (s ∷ rest) = cond (is_child s.axis) (one_desc rest) (all_child rest)

-- what the variable tree tells of a variable: its path, which is the list of steps from variable 0 to it; whether it is straight; its fsa; and the steps from its fsa to it
pub record Var : Type 0 where
  pub path : List Step
  pub straight : Bool
  pub base : ℕ
  pub rel : List Step

abbrev pub var0 : Var
var0 = record { path = []; straight = true; base = 0; rel = [] }

-- The loop over y/s is that of a straight variable where y is straight, the path has at most one descendant step, and the nearest loop round it is that of y.
-- u is the variable of the nearest loop round it, and 0 where there is none.
abbrev pub is_straight : (u y : ℕ) → Step → (parent : Var) → Bool
is_straight u y s parent = parent.straight && ((y == u) && one_desc (parent.path ++ s ∷ []))

-- its fsa is itself where it is straight, else its parent's
abbrev pub child_var : (straight : Bool) → ℕ → Step → (parent : Var) → Var
child_var c x s parent = record { path = parent.path ++ s ∷ []; straight = c; base = cond c x parent.base; rel = cond c [] (parent.rel ++ s ∷ []) }

-- the variable x of the loop over y/s
abbrev pub var_of : (u x y : ℕ) → Step → (parent : Var) → Var
var_of u x y s parent = child_var (is_straight u y s parent) x s parent

abbrev pub set_var : (ℕ → Var) → ℕ → Var → ℕ → Var
set_var F x v = λ y. cond (y == x) v (F y)

-- what F tells, and beside it what the loops of the body tell
abbrev mutual
  pub tree_item : ItemTree → ℕ → (ℕ → Var) → ℕ → Var
  tree_item (Write b) u F = F
  tree_item (Copy x) u F = F
  tree_item (For x y s d) u F = tree_body d x (set_var F x (var_of u x y s (F y)))
  tree_item (If c a b) u F = tree_body b u (tree_body a u F)
  tree_item (SignOff o) u F = F

  pub tree_body : BodyTree → ℕ → (ℕ → Var) → ℕ → Var
  tree_body Nil u F = F
  tree_body (Then i d) u F = tree_body d u (tree_item i u F)

-- the variable tree
abbrev pub var_tree : BodyTree → ℕ → Var
var_tree core = tree_body core 0 (λ x. var0)

-- Path(x), Straight(core, x) and Fsa(core, x)
abbrev pub path_in : BodyTree → ℕ → List Step
path_in core x = (var_tree core x).path

abbrev pub straight_in : BodyTree → ℕ → Bool
straight_in core x = (var_tree core x).straight

abbrev pub fsa_in : BodyTree → ℕ → ℕ
fsa_in core x = (var_tree core x).base

-- the variables of the loops, as the body is read from the left
abbrev mutual
  pub item_vars : ItemTree → List ℕ
  item_vars (Write s) = []
  item_vars (Copy x) = []
  item_vars (For x y s d) = x ∷ vars d
  item_vars (If c a b) = vars a ++ vars b
  item_vars (SignOff o) = []

  pub vars : BodyTree → List ℕ
  vars Nil = []
  vars (Then i d) = item_vars i ++ vars d

-- and their rows
abbrev mutual
  pub item_var_rows : ItemTree → List VarRowTree
  item_var_rows (Write s) = []
  item_var_rows (Copy x) = []
  item_var_rows (For x y s d) = record { parent = y; step = s } ∷ var_rows d
  item_var_rows (If c a b) = var_rows a ++ var_rows b
  item_var_rows (SignOff o) = []

  pub var_rows : BodyTree → List VarRowTree
  var_rows Nil = []
  var_rows (Then i d) = item_var_rows i ++ var_rows d

-- for each variable from 1, whether it is straight, and its fsa
abbrev pub straight_list : BodyTree → List Bool
straight_list core = map (straight_in core) (vars core)

abbrev pub fsa_list : BodyTree → List ℕ
fsa_list core = map (fsa_in core) (vars core)
