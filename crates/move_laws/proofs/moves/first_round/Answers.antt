use Rattle.move_laws.proofs.Moving as from
use Rattle.move_laws.proofs.moves.first_round.Goals as goal

pub returns : goal.returns
returns c = from.first_round
