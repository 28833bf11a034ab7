use Rattle.run_laws.proofs.TurnsReached as from
use Rattle.run_laws.proofs.turning.turns_reach_all.Goals as goal

pub returns : goal.returns
returns c = from.turns_reach_all
