use Rattle.tree_laws.proofs.Fed as from
use Rattle.tree_laws.proofs.growth.tokens_are_found.Goals as goal

pub returns : goal.returns
returns c = from.tokens_are_found
