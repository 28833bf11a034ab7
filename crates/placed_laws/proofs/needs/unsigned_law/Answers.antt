use Rattle.placed_laws.proofs.PointNeeds as from
use Rattle.placed_laws.proofs.needs.unsigned_law.Goals as goal

pub returns : goal.returns
returns c = from.unsigned_law
