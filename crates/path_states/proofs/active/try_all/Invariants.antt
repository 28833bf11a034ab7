use Rattle.std.proofs.Common.{take}
use Rattle.path_states.specs.Lists.{From}
use Rattle.path_states.specs.Active.{GainsBy, PassesTo}
use Rattle.path_states.proofs.active.try_all.Given as goal

abbrev pub invariant-loop-branch : goal.invariant-loop-branch
invariant-loop-branch l = GainsBy l.tree l.steps l.name l.fn.active.items l.active.items (λ kind. From (take l.branch-index l.branches) (PassesTo l.tree kind))
