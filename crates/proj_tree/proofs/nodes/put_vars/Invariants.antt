use Rattle.std.proofs.Common.{◌≡◌, ◌++◌, ◌∷◌, map, take, get_or}
use Rattle.gcx_model.specs.PlanView.{var_row_tree}
use Rattle.proj_tree.specs.Projection.{node_tree, root_node, var_nodes}
use Rattle.proj_tree.proofs.nodes.put_vars.Given as goal

abbrev pub invariant-loop-i : goal.invariant-loop-i
invariant-loop-i l = map node_tree l.nodes ≡ map node_tree l.fn.nodes ++ (root_node (get_or (map (λ r. r.0) l.own) 0 0) ∷ var_nodes (λ x. get_or (map (λ r. r.0) l.own) x 0) 1 (map var_row_tree (take l.i l.vars)))
