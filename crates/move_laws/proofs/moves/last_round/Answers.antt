use Rattle.move_laws.proofs.Moving as from
use Rattle.move_laws.proofs.moves.last_round.Goals as goal

pub returns : goal.returns
returns c = from.last_round
