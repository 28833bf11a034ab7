use Rattle.buffer_tests.proofs.Passed.{top_begun}
use Rattle.buffer_tests.proofs.buffers.passed.begun.Goals as goal

pub returns : goal.returns
returns g c = record { rows = top_begun _ _ _ c.in_ok-buffer.ensures.started c.in-Some.ensures; plain = c.in_ok-buffer.ensures.spread }
