-- The projection tree of a core (this project's, after ICDE 2007).
use Rattle.std.specs.Prelude.{◌≡◌, ℕ, suc, ◌+◌, ◌==◌, Bool, cond, List, [], ◌∷◌, ◌++◌, length, filter, Option, Some, None, option_map, slice_index_or}
use Rattle.gcx_base.specs.declared.ids.Role.{Role}
use Rattle.gcx_base.specs.declared.steps.Step.{Step}
use Rattle.gcx_model.specs.Core.{BodyTree, VarRowTree, RoleRowTree}
use Rattle.gcx_model.specs.Variables.{path_in, var_rows}
use Rattle.gcx_model.specs.Roles.{roles_of}
use Rattle.gcx_model.specs.Placed.{is_own_kind, own_number, row_at}
use Rattle.proj_tree.specs.declared.nodes.ProjNode.{ProjNode}

-- a node: the number of the node above it, the step from there, and its role
pub record NodeTree : Type 0 where
  pub parent : Option ℕ
  pub step : Option Step
  pub role : Option ℕ

abbrev pub node_tree : ProjNode → NodeTree
node_tree n = record { parent = n.parent; step = n.step; role = option_map (λ (r : Role). r.0) n.role }

-- the node of variable 0
abbrev pub root_node : (own : ℕ) → NodeTree
root_node own = record { parent = None; step = None; role = Some own }

-- a node of the other variables, with its own role
abbrev pub var_node : (own : ℕ) → VarRowTree → NodeTree
var_node own r = record { parent = Some r.parent; step = Some r.step; role = Some own }

-- those of the variables from x on
abbrev pub var_nodes : (own : ℕ → ℕ) → (x : ℕ) → List VarRowTree → List NodeTree
var_nodes own x [] = []
var_nodes own x (r ∷ rs) = var_node (own x) r ∷ var_nodes own (suc x) rs

-- a node for each step from `from` on, of which the first has the number `next`; the last has the role
abbrev pub step_nodes : (from next role : ℕ) → List Step → List NodeTree
step_nodes from next role [] = []
step_nodes from next role (s ∷ []) = record { parent = Some from; step = Some s; role = Some role } ∷ []
step_nodes from next role (s ∷ (t ∷ rest)) = record { parent = Some from; step = Some s; role = None } ∷ step_nodes next (suc next) role (t ∷ rest)

-- an empty tail has one node without a step
abbrev pub tail_nodes : (from next role : ℕ) → List Step → List NodeTree
tail_nodes from next role [] = record { parent = Some from; step = None; role = Some role } ∷ []
tail_nodes from next role (s ∷ rest) = step_nodes from next role (s ∷ rest)

-- the nodes of a role that is no variable's own
abbrev pub role_nodes : (next role : ℕ) → RoleRowTree → List NodeTree
role_nodes next role r = cond (is_own_kind r.kind) [] (tail_nodes r.var next role r.tail)

-- those of the roles from k on
abbrev pub other_nodes : (next k : ℕ) → List RoleRowTree → List NodeTree
other_nodes next k [] = []
other_nodes next k (r ∷ rs) = role_nodes next k r ++ other_nodes (next + length (role_nodes next k r)) (suc k) rs

-- a node for each variable, and then those of the other roles
abbrev pub projected : BodyTree → List NodeTree
projected core =
    (root_node (own_number 0 0 (roles_of core)) ∷ var_nodes (λ x. own_number x 0 (roles_of core)) 1 (var_rows core))
    ++ other_nodes (suc (length (var_rows core))) 0 (roles_of core)

-- ---- Paths: the steps from the top to a node

abbrev pub above : List (List Step) → Option ℕ → List Step
above paths None = []
above paths (Some n) = slice_index_or paths n []

abbrev pub some_step : Option Step → List Step
some_step None = []
some_step (Some s) = s ∷ []

-- the paths of the nodes, behind those of the nodes before them
abbrev pub node_paths : List (List Step) → List NodeTree → List (List Step)
node_paths paths [] = paths
node_paths paths (n ∷ ns) = node_paths (paths ++ (above paths n.parent ++ some_step n.step) ∷ []) ns

-- a role at a node, and the node's path
pub record RolePath : Type 0 where
  pub role : ℕ
  pub path : List Step

abbrev pub with_path : Option ℕ → List Step → List RolePath
with_path None path = []
with_path (Some r) path = record { role = r; path = path } ∷ []

abbrev pub with_paths : List NodeTree → List (List Step) → List RolePath
with_paths [] paths = []
with_paths (n ∷ ns) [] = []
with_paths (n ∷ ns) (p ∷ ps) = with_path n.role p ++ with_paths ns ps

-- the roles of the tree with their paths
abbrev pub role_paths : List NodeTree → List RolePath
role_paths ns = with_paths ns (node_paths [] ns)

abbrev pub is_of : ℕ → RolePath → Bool
is_of r p = p.role == r

-- Each role of the core stands at exactly one node. The steps to this node are the path of the role's variable, and then its tail.
abbrev pub HasRolePaths : BodyTree → List NodeTree → Type 0
HasRolePaths core ns = (r : ℕ) (row : RoleRowTree) → row_at (roles_of core) r ≡ Some row → filter (is_of r) (role_paths ns) ≡ record { role = r; path = path_in core row.var ++ row.tail } ∷ []
