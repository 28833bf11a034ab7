use Rattle.std.proofs.Common.{List, take, map}
use Rattle.gcx_base.specs.declared.steps.Step.{Step}
use Rattle.gcx_model.specs.Held.{paths_from}
use Rattle.gcx_model.specs.PlanView.{var_row_tree}
use Rattle.path_states.specs.Growing.{Growing}
use Rattle.path_states.specs.declared.paths.Way.{Way}
use Rattle.path_states.proofs.paths.put_vars.Given as goal

abbrev pub invariant-loop-row : goal.invariant-loop-row
invariant-loop-row l = (paths : List (List Step)) (ways : List Way) → Growing l.fn.tree.items paths ways → Growing l.tree.items (paths_from paths (map var_row_tree (take l.row-index l.vars))) ways
