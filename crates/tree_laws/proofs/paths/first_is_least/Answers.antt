use Rattle.tree_laws.proofs.Hitting as from
use Rattle.tree_laws.proofs.paths.first_is_least.Goals as goal

pub returns : goal.returns
returns c = from.first_is_least
