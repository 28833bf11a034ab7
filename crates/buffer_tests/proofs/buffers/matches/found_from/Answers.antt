use Rattle.buffer_tests.proofs.Places.{found_used}
use Rattle.buffer_tests.proofs.buffers.matches.found_from.Goals as goal

pub serial_of-requires : goal.serial_of-requires
serial_of-requires g c =
    let u = c.in-Some.ensures.top in
    let v = c.in-Some.ensures.from in
    found_used _ _ u.cell _ _ (c.match_behind.ensures.found u.cell v.cell u.among v.among u.place v.place)
