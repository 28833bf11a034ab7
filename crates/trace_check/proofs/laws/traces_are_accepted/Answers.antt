use Rattle.trace_check.proofs.Accepted.{traces_are_accepted}
use Rattle.trace_check.proofs.laws.traces_are_accepted.Goals as goal

pub returns : goal.returns
returns c = traces_are_accepted
