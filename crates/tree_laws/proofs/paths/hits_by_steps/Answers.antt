use Rattle.tree_laws.proofs.Hitting as from
use Rattle.tree_laws.proofs.paths.hits_by_steps.Goals as goal

pub returns : goal.returns
returns c = from.hits_by_steps
