use Rattle.past_laws.proofs.Changes as from
use Rattle.past_laws.proofs.pasts.live_by_act.Goals as goal

pub returns : goal.returns
returns c = from.live_by_act
