use Rattle.past_laws.proofs.Ahead as from
use Rattle.past_laws.proofs.pasts.first_behind.Goals as goal

pub returns : goal.returns
returns c = from.first_behind
