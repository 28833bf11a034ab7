use Rattle.doc_reader.specs.Standing.{waiting}
use Rattle.buffer_tests.proofs.FeedsLate.{fed_late, may_late, shallow_late}
use Rattle.buffer_tests.proofs.buffers.late.feed_next.Goals as goal

pub feed_late-requires-clause-part : goal.feed_late-requires-clause-part
feed_late-requires-clause-part g c = c.has_part.ensures c.if-not-has_part.false

pub feed_late-requires-clause-place : goal.feed_late-requires-clause-place
feed_late-requires-clause-place g c = c.requires.1.place

pub feed_late-requires-clause-may : goal.feed_late-requires-clause-may
feed_late-requires-clause-may g c = may_late _ _ _ _ _ c.requires.1 c.in-Some.token (waiting c.next.new.self) c.in-Some.ensures.takes

pub feed_late-requires-clause-depth : goal.feed_late-requires-clause-depth
feed_late-requires-clause-depth g c = shallow_late _ _ _ _ _ c.requires.1

pub returns : goal.returns
returns g c plan f = fed_late plan _ _ _ _ f c.in-Some.token (waiting c.next.new.self) c.in-Some.ensures.takes _ _ _ _ c.in-Some.ensures.stands c.in_ok-feed_late.ensures
