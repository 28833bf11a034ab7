use Rattle.past_laws.proofs.Bases as from
use Rattle.past_laws.proofs.pasts.own_tells.Goals as goal

pub returns : goal.returns
returns c = from.own_tells
