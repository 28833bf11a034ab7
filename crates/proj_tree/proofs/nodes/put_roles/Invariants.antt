use Rattle.std.proofs.Common.{◌≡◌, ◌++◌, map, take, length}
use Rattle.gcx_model.specs.PlanView.{role_row_tree}
use Rattle.proj_tree.specs.Projection.{node_tree, other_nodes}
use Rattle.proj_tree.proofs.nodes.put_roles.Given as goal

abbrev pub invariant-loop-i : goal.invariant-loop-i
invariant-loop-i l = map node_tree l.nodes ≡ map node_tree l.fn.nodes ++ other_nodes (length l.fn.nodes) 0 (map role_row_tree (take l.i l.roles))
