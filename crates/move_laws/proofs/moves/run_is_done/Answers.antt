use Rattle.move_laws.proofs.Moving as from
use Rattle.move_laws.proofs.moves.run_is_done.Goals as goal

pub returns : goal.returns
returns c = from.run_is_done
