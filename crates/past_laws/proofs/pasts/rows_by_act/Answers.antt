use Rattle.past_laws.proofs.Changes as from
use Rattle.past_laws.proofs.pasts.rows_by_act.Goals as goal

pub returns : goal.returns
returns c = from.rows_by_act
