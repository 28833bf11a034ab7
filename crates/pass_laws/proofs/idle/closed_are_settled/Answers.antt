use Rattle.pass_laws.proofs.Settled as from
use Rattle.pass_laws.proofs.idle.closed_are_settled.Goals as goal

pub returns : goal.returns
returns c = from.closed_are_settled
