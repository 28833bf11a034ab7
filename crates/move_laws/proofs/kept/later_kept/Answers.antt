use Rattle.move_laws.proofs.Keeping as from
use Rattle.move_laws.proofs.kept.later_kept.Goals as goal

pub returns : goal.returns
returns c = from.later_kept
