use Rattle.tree_laws.proofs.Hitting as from
use Rattle.tree_laws.proofs.paths.loops_in_order.Goals as goal

pub returns : goal.returns
returns c = from.loops_in_order
