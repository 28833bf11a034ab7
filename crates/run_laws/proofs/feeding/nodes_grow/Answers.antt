use Rattle.run_laws.proofs.Feeds as from
use Rattle.run_laws.proofs.feeding.nodes_grow.Goals as goal

pub returns : goal.returns
returns c = from.nodes_grow
