use Rattle.buffer_tests.proofs.Places.{found_used, top_goes}
use Rattle.buffer_tests.proofs.buffers.matches.found_from_top.Goals as goal

pub match_behind-requires : goal.match_behind-requires
match_behind-requires g c = top_goes _ _ _ c.requires

pub serial_of-requires : goal.serial_of-requires
serial_of-requires g c =
    let u = c.requires in
    found_used _ _ u.cell _ _ (c.match_behind.ensures.found u.cell u.cell u.among u.among u.place u.place)
