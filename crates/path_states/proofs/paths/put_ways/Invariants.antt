use Rattle.std.proofs.Common.{[], ◌∷◌, take, map}
use Rattle.gcx_model.specs.Core.{PlanTree}
use Rattle.gcx_model.specs.Held.{paths_from}
use Rattle.gcx_model.specs.PlanView.{role_row_tree}
use Rattle.path_states.specs.Growing.{Growing, Ended}
use Rattle.path_states.proofs.paths.put_ways.Given as goal

abbrev pub invariant-loop-i : goal.invariant-loop-i
invariant-loop-i l = (plan : PlanTree) → Growing l.fn.tree.items (paths_from ([] ∷ []) plan.vars) [] → Ended plan l.tree.items l.ways.items (map role_row_tree (take l.i l.rows))
