use Rattle.run_laws.proofs.Traces as from
use Rattle.run_laws.proofs.trace.peak_is_greatest.Goals as goal

pub returns : goal.returns
returns c = from.peak_is_greatest
