use Rattle.std.proofs.Common.{◌≡◌, ◌++◌, map, length}
use Rattle.proj_tree.specs.Projection.{node_tree, step_nodes}
use Rattle.proj_tree.proofs.nodes.put_steps.Given as goal

abbrev pub invariant-loop-step : goal.invariant-loop-step
invariant-loop-step l = map node_tree l.nodes ++ step_nodes l.above (length l.nodes) l.role.0 l.rest ≡ map node_tree l.fn.nodes ++ step_nodes l.from (length l.fn.nodes) l.role.0 l.steps

abbrev pub decreases-loop-step : goal.decreases-loop-step
decreases-loop-step l = length l.rest
