use Rattle.std.proofs.Common.{leb}
use Rattle.trace_check.specs.Telling.{Puts}
use Rattle.trace_check.specs.Timing.{clock_in}
use Rattle.trace_check.proofs.Told.{left_among}
use Rattle.trace_check.proofs.telling.put_freed.Given as goal

abbrev pub invariant-loop-node : goal.invariant-loop-node
invariant-loop-node l = Puts l.fn.text.items l.text.items (left_among (λ n. leb ((clock_in l.course.timed).closed n) l.now) l.node-items l.node-index)
