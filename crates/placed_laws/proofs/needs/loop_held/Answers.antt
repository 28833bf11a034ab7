use Rattle.placed_laws.proofs.PointNeeds as from
use Rattle.placed_laws.proofs.needs.loop_held.Goals as goal

pub returns : goal.returns
returns c = from.loop_held
