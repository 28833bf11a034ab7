use Rattle.past_laws.proofs.Bases as from
use Rattle.past_laws.proofs.pasts.reach_held.Goals as goal

pub returns : goal.returns
returns c = from.reach_held
