use Rattle.past_laws.proofs.Ahead as from
use Rattle.past_laws.proofs.pasts.open_nodes_are.Goals as goal

pub returns : goal.returns
returns c = from.open_nodes_are
