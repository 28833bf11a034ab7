use Rattle.tree_laws.proofs.Fed as from
use Rattle.tree_laws.proofs.growth.grow_is_feeding.Goals as goal

pub returns : goal.returns
returns c = from.grow_is_feeding
