use Rattle.time_laws.proofs.Traces as from
use Rattle.time_laws.proofs.tracing.trace_by_times.Goals as goal

pub returns : goal.returns
returns c = from.trace_by_times
