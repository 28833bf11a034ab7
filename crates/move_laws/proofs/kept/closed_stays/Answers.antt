use Rattle.move_laws.proofs.Keeping as from
use Rattle.move_laws.proofs.kept.closed_stays.Goals as goal

pub returns : goal.returns
returns c = from.closed_stays
