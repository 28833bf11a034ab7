-- Which nodes have which roles, which roles are taken back, and which nodes are held (ICDE 2007; that open nodes are held, and roles without counts, are this project's).
use Rattle.std.specs.Prelude.{ℕ, Bool, false, not, ◌&&◌, ◌||◌, List, [], ◌∷◌, ◌++◌, length, ◌==◌, filter, reverse, Option, Some, None, sum, map, slice_index_or}
use Rattle.gcx_base.specs.declared.steps.Step.{Step}
use Rattle.gcx_model.specs.Tree.{Node, serial_of, above, within, Tree, is_open_at}
use Rattle.gcx_model.specs.Paths.{any, all, head, hits, matches, first}
use Rattle.gcx_model.specs.Members.{count}
use Rattle.gcx_model.specs.Core.{RoleTarget, Own, First, Whole, OffTree, VarRowTree, RoleRowTree, PlanTree}
use Rattle.gcx_model.specs.Run.{Action, Wrote, Offed}
use Rattle.gcx_model.specs.Placed.{offs_in, of_role, row_at}
use Rattle.gcx_model.specs.Equal.{off_eq}

-- the paths of the variables, each its parent's and its own step: those so far, and those of these rows
abbrev pub paths_from : List (List Step) → List VarRowTree → List (List Step)
paths_from paths [] = paths
paths_from paths (r ∷ rs) = paths_from (paths ++ (slice_index_or paths r.parent [] ++ r.step ∷ []) ∷ []) rs

-- Path(x): the steps from variable 0 to x
abbrev pub path_of : PlanTree → ℕ → List Step
path_of plan x = slice_index_or (paths_from ([] ∷ []) plan.vars) x []

-- the plan's statement for the role
abbrev pub statement_of : PlanTree → ℕ → Option OffTree
statement_of plan r = head (filter (of_role r) (offs_in plan.body))

abbrev pub is_node : ℕ → Option Node → Bool
is_node n None = false
is_node n (Some m) = serial_of m == n

-- from the node m, by these steps, this tail and this kind, the role reaches n
abbrev pub gives : Tree → (m : ℕ) → (rel tail : List Step) → RoleTarget → Node → Bool
gives P m rel tail Own n = hits m rel n
gives P m rel tail First n = any (λ j. is_node (serial_of n) (first P (serial_of j) tail)) (matches P m rel)
gives P m rel tail Whole n = any (hits m (rel ++ tail)) (above n)

abbrev pub given_row : (ℕ → List Step) → Tree → Node → RoleRowTree → Bool
given_row paths P n row = gives P 0 (paths row.var) row.tail row.kind n

abbrev pub on_row : (RoleRowTree → Bool) → Option RoleRowTree → Bool
on_row p None = false
on_row p (Some row) = p row

-- Given
abbrev pub given : PlanTree → Tree → Node → (role : ℕ) → Bool
given plan P n r = on_row (given_row (path_of plan) P n) (row_at plan.roles r)

-- the roles given to the node, by rising role
abbrev pub roles_given : PlanTree → Tree → Node → List ℕ
roles_given plan P n = filter (given plan P n) (count 0 (length plan.roles))

-- the action carries out this statement at the node m
abbrev pub is_off : OffTree → (m : ℕ) → Action → Bool
is_off o m (Wrote b) = false
is_off o m (Offed p n) = off_eq o p && (n == m)

-- m is signed for the statement
abbrev pub signed : List Action → OffTree → Node → Bool
signed A o m = any (is_off o (serial_of m)) A

-- the statement reaches n from m
abbrev pub reaches : Tree → OffTree → (m n : Node) → Bool
reaches P o m n = gives P (serial_of m) o.rel o.tail o.kind n

-- each match of the base's path from which the statement reaches n is signed
abbrev pub all_signed : (ℕ → List Step) → Tree → List Action → Node → OffTree → Bool
all_signed paths P A n o = all (λ m. not (reaches P o m n) || signed A o m) (matches P 0 (paths o.base))

abbrev pub on_off : (OffTree → Bool) → Option OffTree → Bool
on_off p None = false
on_off p (Some o) = p o

-- Taken
abbrev pub taken : PlanTree → Tree → List Action → Node → (role : ℕ) → Bool
taken plan P A n r = given plan P n r && on_off (all_signed (path_of plan) P A n) (statement_of plan r)

-- Live
abbrev pub live : PlanTree → Tree → List Action → Node → (role : ℕ) → Bool
live plan P A n r = given plan P n r && not (taken plan P A n r)

-- the roles live at the node, by rising role
abbrev pub roles_live : PlanTree → Tree → List Action → Node → List ℕ
roles_live plan P A n = filter (live plan P A n) (count 0 (length plan.roles))

-- some role is live at the node
abbrev pub is_live : PlanTree → Tree → List Action → Node → Bool
is_live plan P A n = any (live plan P A n) (count 0 (length plan.roles))

-- the node is open, or some node of its subtree has a live role
abbrev pub is_held : PlanTree → Tree → List Action → Node → Bool
is_held plan P A n = is_open_at P.at (serial_of n) || any (λ m. within (serial_of n) m && is_live plan P A m) P.nodes

-- Held
abbrev pub held : PlanTree → Tree → List Action → List Node
held plan P A = filter (is_held plan P A) P.nodes

-- a node of this serial is there
abbrev pub has_serial : List Node → ℕ → Bool
has_serial ns s = any (λ m. serial_of m == s) ns

-- the serials of the nodes that were there before and aren't there now, by falling serial; the nodes stand by rising serial
abbrev pub departed : (before now : List Node) → List ℕ
departed before now = map serial_of (reverse (filter (λ n. not (has_serial now (serial_of n))) before))

-- the sums of Given and of Taken: the pairs of a node and a role for which it holds
abbrev pub sum_given : PlanTree → Tree → ℕ
sum_given plan P = sum (map (λ n. length (roles_given plan P n)) P.nodes)

abbrev pub roles_taken : PlanTree → Tree → List Action → Node → List ℕ
roles_taken plan P A n = filter (taken plan P A n) (count 0 (length plan.roles))

abbrev pub sum_taken : PlanTree → Tree → List Action → ℕ
sum_taken plan P A = sum (map (λ n. length (roles_taken plan P A n)) P.nodes)

-- the tree of the held nodes
abbrev pub held_tree : PlanTree → Tree → List Action → Tree
held_tree plan P A = record { nodes = held plan P A; at = P.at }
