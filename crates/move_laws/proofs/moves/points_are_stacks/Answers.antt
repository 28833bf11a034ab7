use Rattle.move_laws.proofs.Moving as from
use Rattle.move_laws.proofs.moves.points_are_stacks.Goals as goal

pub returns : goal.returns
returns c = from.points_are_stacks
