use Rattle.run_laws.proofs.TurnsReached as from
use Rattle.run_laws.proofs.turning.one_turn_more.Goals as goal

pub returns : goal.returns
returns c = from.one_turn_more
