use Rattle.tree_laws.proofs.Hitting as from
use Rattle.tree_laws.proofs.paths.matches_are_hits.Goals as goal

pub returns : goal.returns
returns c = from.matches_are_hits
