use Rattle.std.proofs.Common.{[]}
use Rattle.path_states.specs.Lists.{Gains}
use Rattle.matcher.specs.Frames.{HitOver}
use Rattle.matcher.specs.View.{frames_of}
use Rattle.matcher.proofs.upward.ancestors.Given as goal

abbrev pub invariant-loop-other : goal.invariant-loop-other
invariant-loop-other l = Gains [] l.found.items (HitOver (frames_of l.states l.frames) l.state l.other)
