use Rattle.placed_laws.proofs.FromPlans as from
use Rattle.placed_laws.proofs.plans.placed_once.Goals as goal

pub returns : goal.returns
returns c = from.placed_once
