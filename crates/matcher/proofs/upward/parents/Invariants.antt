use Rattle.std.proofs.Common.{[], take}
use Rattle.path_states.specs.Lists.{From, Gains}
use Rattle.matcher.specs.Frames.{HitAbove}
use Rattle.matcher.specs.View.{frames_of}
use Rattle.matcher.proofs.upward.parents.Given as goal

abbrev pub invariant-loop-level : goal.invariant-loop-level
invariant-loop-level l = Gains [] l.found.items (From (take l.level-index l.levels) (HitAbove (frames_of l.states l.frames) l.state))
