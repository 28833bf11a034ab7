use Rattle.past_laws.proofs.RowFacts as from
use Rattle.past_laws.proofs.pasts.bases_above.Goals as goal

pub returns : goal.returns
returns c = from.bases_above
