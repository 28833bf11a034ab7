use Rattle.tree_laws.proofs.Fed as from
use Rattle.tree_laws.proofs.growth.nodes_are_numbered.Goals as goal

pub returns : goal.returns
returns c = from.nodes_are_numbered
