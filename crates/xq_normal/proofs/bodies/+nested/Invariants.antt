use Rattle.std.proofs.Common.{length}
use Rattle.xq_normal.proofs.bodies.+nested.Given as goal

abbrev pub decreases-nested : goal.decreases-nested
decreases-nested l = length l.steps.now
