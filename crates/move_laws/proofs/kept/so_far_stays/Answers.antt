use Rattle.move_laws.proofs.Keeping as from
use Rattle.move_laws.proofs.kept.so_far_stays.Goals as goal

pub returns : goal.returns
returns c = from.so_far_stays
