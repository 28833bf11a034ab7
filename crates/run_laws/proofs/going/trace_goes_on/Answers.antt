use Rattle.run_laws.proofs.Goes as from
use Rattle.run_laws.proofs.going.trace_goes_on.Goals as goal

pub returns : goal.returns
returns c = from.trace_goes_on
