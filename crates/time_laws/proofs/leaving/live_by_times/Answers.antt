use Rattle.time_laws.proofs.Lives as from
use Rattle.time_laws.proofs.leaving.live_by_times.Goals as goal

pub returns : goal.returns
returns c = from.live_by_times
