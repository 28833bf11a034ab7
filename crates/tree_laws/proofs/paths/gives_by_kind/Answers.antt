use Rattle.tree_laws.proofs.Hitting as from
use Rattle.tree_laws.proofs.paths.gives_by_kind.Goals as goal

pub returns : goal.returns
returns c = from.gives_by_kind
