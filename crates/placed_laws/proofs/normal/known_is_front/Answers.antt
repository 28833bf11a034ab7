use Rattle.placed_laws.proofs.PlanWriting as from
use Rattle.placed_laws.proofs.normal.known_is_front.Goals as goal

pub returns : goal.returns
returns c = from.known_is_front
