use Rattle.run_laws.proofs.Counts as from
use Rattle.run_laws.proofs.peaks.peak_step.Goals as goal

pub returns : goal.returns
returns c = from.peak_step
