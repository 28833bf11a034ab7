-- The roles given to nodes, and until which statement nodes are wanted (this project's).
use Rattle.std.specs.Prelude.{◌≡◌, ℕ, suc, ◌<◌, Bool, false, cond, ◌==◌, List, [], ◌∷◌, ◌++◌, length, map, filter, reverse, get_or}
use Rattle.std.specs.Prelude.{slice_index_or}
use Rattle.std.specs.Global.{Vec}
use Rattle.gcx_base.specs.declared.ids.Role.{Role}
use Rattle.gcx_base.specs.declared.steps.Step.{Step}
use Rattle.gcx_model.specs.Core.{OffTree, PlanTree, RoleRowTree, VarRowTree}
use Rattle.gcx_model.specs.Held.{given_row, paths_from, roles_given}
use Rattle.gcx_model.specs.Members.{In, count}
use Rattle.gcx_model.specs.Paths.{hits}
use Rattle.gcx_model.specs.Run.{Action}
use Rattle.gcx_model.specs.Tree.{Node, serial_of, within, Tree}
use Rattle.time_laws.specs.Leaving.{count_offs, freed_of, greatest}
use Rattle.trace_check.specs.declared.acts.TimedAct.{TimedAct}
use Rattle.trace_check.specs.Acting.{Signed, what_shown}
use Rattle.trace_check.specs.Reaching.{Covers, numbers_of}
use Rattle.trace_check.specs.declared.reach.Range.{Range}

-- the numbers of the matches of each path
abbrev pub matches_by : Tree → List (List Step) → List (List ℕ)
matches_by C paths = map (λ p. numbers_of C (hits 0 p)) paths

-- the paths of these variables
abbrev pub row_paths : List VarRowTree → List (List Step)
row_paths vars = paths_from ([] ∷ []) vars

-- the path of the variable among these
abbrev pub path_in : List (List Step) → ℕ → List Step
path_in paths x = slice_index_or paths x []

abbrev pub lists_in : List (Vec ℕ) → List (List ℕ)
lists_in lists = map (λ (l : Vec ℕ). l.items) lists

-- the roles' numbers
abbrev pub numbers_in : List Role → List ℕ
numbers_in roles = map (λ r. r.0) roles

-- each of these roles is below this one
abbrev pub AreBelow : ℕ → List Role → Type 0
AreBelow role roles = (r : Role) → In r roles → r.0 < role

abbrev pub is_last : List Role → Role → Bool
is_last [] role = false
is_last (r ∷ []) role = r.0 == role.0
is_last (r ∷ (s ∷ rest)) role = is_last (s ∷ rest) role

-- the roles with this one behind them, unless it is there
abbrev pub with_role : Role → List Role → List Role
with_role role roles = cond (is_last roles role) roles (roles ++ role ∷ [])

-- the entries with the role at those numbers, and the others as they were
pub record IsGivenTo (role : Role) (p : ℕ → Bool) (old new : List (List Role)) : Type 0 where
  pub as_many : length new ≡ length old
  pub entries : (k : ℕ) → k < length old
      → get_or new k [] ≡ cond (p k) (with_role role (get_or old k [])) (get_or old k [])

-- the ranges have the numbers of the nodes to which a role of the row is given, whatever the paths whose matches these are
abbrev pub CoversGiven : Tree → (matches : List (List ℕ)) → RoleRowTree → List Range → Type 0
CoversGiven C matches row ranges = (paths : List (List Step)) → matches ≡ matches_by C paths → Covers C ranges (λ n. given_row (path_in paths) C n row)

-- the roles that are given to each node
abbrev pub given_all : PlanTree → Tree → List (List ℕ)
given_all plan C = map (roles_given plan C) C.nodes

-- an entry for each node
abbrev pub by_node : Tree → (Node → ℕ) → List ℕ
by_node C f = map f C.nodes

-- the entries with this one at those numbers
abbrev pub set_where : (ℕ → Bool) → ℕ → List ℕ → List ℕ
set_where p x entries = map (λ k. cond (p k) x (get_or entries k 0)) (count 0 (length entries))

-- each statement is carried out at a node of the tree
abbrev pub OffsAreThere : Tree → List TimedAct → Type 0
OffsAreThere C acts = (a : TimedAct) (off : OffTree) (node : ℕ) → In a acts → what_shown a ≡ Signed off node
    → node < length C.nodes

-- the greatest of the entries in the node's subtree
abbrev pub greatest_in : Tree → (Node → ℕ) → Node → ℕ
greatest_in C f n = greatest f (filter (within (serial_of n)) C.nodes)

-- the numbers with this entry, falling
abbrev pub with_entry : List ℕ → ℕ → List ℕ
with_entry entries k = reverse (filter (λ n. get_or entries n 0 == k) (count 0 (length entries)))

-- Until which statement each node is wanted, and which nodes each statement frees.
pub record IsWanted (C : Tree) (all : List Action) (until : List ℕ) (freed : List (List ℕ)) : Type 0 where
  pub until_is : until ≡ by_node C (freed_of C all)
  pub freed_is : freed ≡ map (with_entry until) (count 0 (suc (count_offs all)))
