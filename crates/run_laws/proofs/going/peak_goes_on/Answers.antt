use Rattle.run_laws.proofs.Goes as from
use Rattle.run_laws.proofs.going.peak_goes_on.Goals as goal

pub returns : goal.returns
returns c = from.peak_goes_on
