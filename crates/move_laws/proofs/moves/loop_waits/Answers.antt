use Rattle.move_laws.proofs.Moving as from
use Rattle.move_laws.proofs.moves.loop_waits.Goals as goal

pub returns : goal.returns
returns c = from.loop_waits
