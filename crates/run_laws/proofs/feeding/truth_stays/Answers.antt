use Rattle.run_laws.proofs.Feeds as from
use Rattle.run_laws.proofs.feeding.truth_stays.Goals as goal

pub returns : goal.returns
returns c = from.truth_stays
