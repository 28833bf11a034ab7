use Rattle.tree_laws.proofs.Hitting as from
use Rattle.tree_laws.proofs.paths.loops_bind_hits.Goals as goal

pub returns : goal.returns
returns c = from.loops_bind_hits
