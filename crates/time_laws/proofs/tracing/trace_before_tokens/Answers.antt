use Rattle.time_laws.proofs.Starts as from
use Rattle.time_laws.proofs.tracing.trace_before_tokens.Goals as goal

pub returns : goal.returns
returns c = from.trace_before_tokens
