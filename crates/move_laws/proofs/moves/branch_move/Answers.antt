use Rattle.move_laws.proofs.Moving as from
use Rattle.move_laws.proofs.moves.branch_move.Goals as goal

pub returns : goal.returns
returns c = from.branch_move
