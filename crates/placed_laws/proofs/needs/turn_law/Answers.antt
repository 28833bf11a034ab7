use Rattle.placed_laws.proofs.PointNeeds as from
use Rattle.placed_laws.proofs.needs.turn_law.Goals as goal

pub returns : goal.returns
returns c = from.turn_law
