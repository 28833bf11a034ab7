use Rattle.run_laws.proofs.Counts as from
use Rattle.run_laws.proofs.peaks.held_counts.Goals as goal

pub returns : goal.returns
returns c = from.held_counts
