use Rattle.run_laws.proofs.Feeds as from
use Rattle.run_laws.proofs.feeding.open_chain.Goals as goal

pub returns : goal.returns
returns c = from.open_chain
