use Rattle.move_laws.proofs.Moving as from
use Rattle.move_laws.proofs.moves.empty_rest.Goals as goal

pub returns : goal.returns
returns c = from.empty_rest
