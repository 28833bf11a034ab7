use Rattle.buffer_tests.proofs.Places.{found_used}
use Rattle.buffer_tests.proofs.buffers.row_below.Goals as goal

pub returns : goal.returns
returns g c = let u = c.requires in found_used _ _ u.cell _ _ (c.next_match.ensures.found u.cell u.among u.place)
