use Rattle.move_laws.proofs.Keeping as from
use Rattle.move_laws.proofs.kept.matches_kept.Goals as goal

pub returns : goal.returns
returns c = from.matches_kept
