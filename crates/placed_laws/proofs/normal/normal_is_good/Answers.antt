use Rattle.placed_laws.proofs.Moved as from
use Rattle.placed_laws.proofs.normal.normal_is_good.Goals as goal

pub returns : goal.returns
returns c = from.normal_good
