use Rattle.move_laws.proofs.Keeping as from
use Rattle.move_laws.proofs.kept.taken_are_there.Goals as goal

pub returns : goal.returns
returns c = from.taken_are_there
