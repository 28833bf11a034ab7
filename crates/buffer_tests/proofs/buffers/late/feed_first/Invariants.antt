use Rattle.gcx_model.specs.Core.{PlanTree}
use Rattle.buffer_tests.specs.Late.{IsFedLate}
use Rattle.buffer_tests.proofs.buffers.late.feed_first.Given as goal

abbrev pub invariant-loop-part : goal.invariant-loop-part
invariant-loop-part g l = (plan : PlanTree) × IsFedLate plan l.bytes l.reader l.projector l.buffer
