use Rattle.buffer_tests.proofs.Places.{found_used}
use Rattle.buffer_tests.proofs.buffers.matches.found_behind.Goals as goal

pub serial_of-requires : goal.serial_of-requires
serial_of-requires g c = let u = c.requires in found_used _ _ u.cell _ _ (c.next_match.ensures.found u.cell u.among u.place)
