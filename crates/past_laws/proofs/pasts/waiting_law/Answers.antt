use Rattle.past_laws.proofs.Awaited as from
use Rattle.past_laws.proofs.pasts.waiting_law.Goals as goal

pub returns : goal.returns
returns c = from.waiting_law
