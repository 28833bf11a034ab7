use Rattle.run_laws.proofs.Traces as from
use Rattle.run_laws.proofs.trace.events_are_reached.Goals as goal

pub returns : goal.returns
returns c = from.events_are_reached
