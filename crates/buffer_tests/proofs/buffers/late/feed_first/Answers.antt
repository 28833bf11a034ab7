use Rattle.buffer_tests.proofs.FeedsLate.{shallow_late}
use Rattle.buffer_tests.proofs.buffers.late.feed_first.Goals as goal

pub loop-part-preserved : goal.loop-part-preserved
loop-part-preserved g c = (c.loop-part.invariant.0, c.in_ok-feed_next.ensures c.loop-part.invariant.0 c.loop-part.invariant.1)

pub settle-requires-clause-place : goal.settle-requires-clause-place
settle-requires-clause-place g c = c.loop-part.invariant.1.place

pub settle-requires-clause-stand : goal.settle-requires-clause-stand
settle-requires-clause-stand g c = (c.loop-part.invariant.1.past, c.loop-part.invariant.1.stand)

pub settle-requires-clause-depth : goal.settle-requires-clause-depth
settle-requires-clause-depth g c = shallow_late _ _ _ _ _ c.loop-part.invariant.1
