use Rattle.past_laws.proofs.RowFacts as from
use Rattle.past_laws.proofs.pasts.open_behind.Goals as goal

pub returns : goal.returns
returns c = from.open_behind
