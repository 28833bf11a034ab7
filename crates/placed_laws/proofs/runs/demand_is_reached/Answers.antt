use Rattle.placed_laws.proofs.DemandStates as from
use Rattle.placed_laws.proofs.runs.demand_is_reached.Goals as goal

pub returns : goal.returns
returns c = from.demand_is_reached
