use Rattle.time_laws.proofs.Clocks as from
use Rattle.time_laws.proofs.times.clock_of_tokens.Goals as goal

pub returns : goal.returns
returns c = from.clock_of_tokens
