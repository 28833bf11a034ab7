use Rattle.std.proofs.Common.{[], take}
use Rattle.path_states.specs.Lists.{From, Gains}
use Rattle.matcher.specs.Frames.{IsLevelOf}
use Rattle.matcher.proofs.found.contexts_found.Given as goal

abbrev pub invariant-loop-one : goal.invariant-loop-one
invariant-loop-one l = Gains [] l.levels.items (From (take l.one-index l.found) (IsLevelOf l.role))
