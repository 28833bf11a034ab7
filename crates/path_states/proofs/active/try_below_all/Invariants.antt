use Rattle.std.proofs.Common.{take}
use Rattle.path_states.specs.Lists.{From}
use Rattle.path_states.specs.Active.{GainsBy, Under}
use Rattle.path_states.specs.Branches.{steps_by}
use Rattle.path_states.proofs.active.try_below_all.Given as goal

abbrev pub invariant-loop-number : goal.invariant-loop-number
invariant-loop-number l = GainsBy l.tree l.steps l.name l.fn.active.items l.active.items (λ kind. From (take l.number-index l.above) (Under (steps_by l.axis) l.tree kind))
