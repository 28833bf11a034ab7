use Rattle.move_laws.proofs.Keeping as from
use Rattle.move_laws.proofs.kept.reached_grows.Goals as goal

pub returns : goal.returns
returns c = from.reached_grows
