use Rattle.tree_laws.proofs.Departures as from
use Rattle.tree_laws.proofs.departing.departed_are_gone.Goals as goal

pub returns : goal.returns
returns c = from.departed_are_gone
