-- What a call adds to rows and to nodes (this project's).
use Rattle.std.specs.Prelude.{ℕ, ◌≡◌, List, ◌∷◌, ◌++◌, map, slice_index_or}
use Rattle.gcx_base.specs.declared.ids.Role.{Role}
use Rattle.gcx_model.specs.declared.plan.RoleRow.{RoleRow}
use Rattle.gcx_model.specs.declared.plan.VarRow.{VarRow}
use Rattle.gcx_model.specs.Core.{RoleRowTree}
use Rattle.gcx_model.specs.PlanView.{role_row_tree, var_row_tree}
use Rattle.proj_tree.specs.declared.nodes.ProjNode.{ProjNode}
use Rattle.proj_tree.specs.Projection.{NodeTree, node_tree, root_node, var_nodes}

-- these rows come behind those that there were
abbrev pub AddsRows : (before after : List RoleRow) → List RoleRowTree → Type 0
AddsRows before after more = map role_row_tree after ≡ map role_row_tree before ++ more

-- these nodes do
abbrev pub AddsNodes : (before after : List ProjNode) → List NodeTree → Type 0
AddsNodes before after more = map node_tree after ≡ map node_tree before ++ more

-- the own role of a variable, of which there are these
abbrev pub own_at : List Role → (x : ℕ) → ℕ
own_at own x = slice_index_or (map (λ (r : Role). r.0) own) x 0

-- a node for each variable: the root, and one for each row
abbrev pub nodes_of_vars : List Role → List VarRow → List NodeTree
nodes_of_vars own vars = root_node (own_at own 0) ∷ var_nodes (own_at own) 1 (map var_row_tree vars)
