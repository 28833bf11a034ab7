use Rattle.run_part.proofs.InOrder as from
use Rattle.run_part.proofs.laws.trace_never_ahead.Goals as goal

pub returns : goal.returns
returns c = from.never_ahead
