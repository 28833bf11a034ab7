use Rattle.past_laws.proofs.RowFacts as from
use Rattle.past_laws.proofs.pasts.held_local.Goals as goal

pub returns : goal.returns
returns c = from.held_local
