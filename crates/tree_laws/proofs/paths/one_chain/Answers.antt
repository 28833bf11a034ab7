use Rattle.tree_laws.proofs.Hitting as from
use Rattle.tree_laws.proofs.paths.one_chain.Goals as goal

pub returns : goal.returns
returns c = from.one_chain
