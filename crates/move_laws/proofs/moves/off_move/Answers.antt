use Rattle.move_laws.proofs.Moving as from
use Rattle.move_laws.proofs.moves.off_move.Goals as goal

pub returns : goal.returns
returns c = from.off_move
