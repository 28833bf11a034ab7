use Rattle.std.proofs.Common.{List, take, length, ◌<◌, ◌++◌}
use Rattle.gcx_base.specs.declared.steps.Step.{Step}
use Rattle.path_states.specs.Growing.{Growing, Reached, path_at}
use Rattle.path_states.specs.declared.paths.Way.{Way}
use Rattle.path_states.proofs.paths.put_tail.Given as goal

abbrev pub invariant-loop-step : goal.invariant-loop-step
invariant-loop-step l = (paths : List (List Step)) (ways : List Way) → l.fn.var < length l.fn.tree.items → Growing l.fn.tree.items paths ways → Reached l.tree.items paths ways l.end (path_at paths l.fn.var ++ take l.step-index l.tail)
