use Rattle.time_laws.proofs.Runs as from
use Rattle.time_laws.proofs.times.run_by_times.Goals as goal

pub returns : goal.returns
returns c = from.run_by_times
