use Rattle.run_laws.proofs.Traces as from
use Rattle.run_laws.proofs.trace.trace_by_events.Goals as goal

pub returns : goal.returns
returns c = from.trace_by_events
