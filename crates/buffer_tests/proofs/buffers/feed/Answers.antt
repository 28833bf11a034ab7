use Rattle.buffer_tests.proofs.buffers.feed.Goals as goal

pub feed_one-requires : goal.feed_one-requires
feed_one-requires g c = (c.requires.0, c.loop.invariant c.requires.0 c.requires.1)
