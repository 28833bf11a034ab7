use Rattle.std.proofs.Common.{take}
use Rattle.path_states.specs.Lists.{From, Gains}
use Rattle.matcher.specs.Frames.{FoundAt}
use Rattle.matcher.proofs.found.put_found.Given as goal

abbrev pub invariant-loop-level : goal.invariant-loop-level
invariant-loop-level l = Gains l.fn.found.items l.found.items (From (take l.level-index l.levels) (FoundAt l.frames l.role))
