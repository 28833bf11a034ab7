use Rattle.placed_laws.proofs.PointNeeds as from
use Rattle.placed_laws.proofs.needs.bound_law.Goals as goal

pub returns : goal.returns
returns c = from.bound_law
