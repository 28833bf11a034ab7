use Rattle.buffer_tests.proofs.Places.{found_goes}
use Rattle.buffer_tests.proofs.buffers.matches.from_behind.Goals as goal

pub returns : goal.returns
returns g c = found_goes _ _ _ c.requires _ _ (c.next_match.ensures.found c.requires.cell c.requires.among c.requires.place)
