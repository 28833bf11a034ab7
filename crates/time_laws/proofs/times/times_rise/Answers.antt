use Rattle.time_laws.proofs.InOrder as from
use Rattle.time_laws.proofs.times.times_rise.Goals as goal

pub returns : goal.returns
returns c = from.times_rise
