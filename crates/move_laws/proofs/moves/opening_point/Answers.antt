use Rattle.move_laws.proofs.Moving as from
use Rattle.move_laws.proofs.moves.opening_point.Goals as goal

pub returns : goal.returns
returns c = from.opening_point
