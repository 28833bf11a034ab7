use Rattle.move_laws.proofs.Keeping as from
use Rattle.move_laws.proofs.kept.truth_kept.Goals as goal

pub returns : goal.returns
returns c = from.truth_kept
