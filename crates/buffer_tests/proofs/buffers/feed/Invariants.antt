use Rattle.gcx_model.specs.Core.{PlanTree}
use Rattle.buffer_tests.specs.Buffers.{IsFed}
use Rattle.buffer_tests.proofs.buffers.feed.Given as goal

abbrev pub invariant-loop : goal.invariant-loop
invariant-loop g l = (plan : PlanTree) → IsFed plan l.fn.reader l.fn.projector l.fn.buffer → IsFed plan l.reader l.projector l.buffer
