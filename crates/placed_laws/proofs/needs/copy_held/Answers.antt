use Rattle.placed_laws.proofs.PointNeeds as from
use Rattle.placed_laws.proofs.needs.copy_held.Goals as goal

pub returns : goal.returns
returns c = from.copy_held
