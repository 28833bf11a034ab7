use Rattle.buffer_tests.proofs.Places.{head_used}
use Rattle.buffer_tests.proofs.buffers.first_row.Goals as goal

pub returns : goal.returns
returns g c = head_used c.root.result c.args.buffer.now.rows c.root.ensures
