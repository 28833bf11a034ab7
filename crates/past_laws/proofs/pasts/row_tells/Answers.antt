use Rattle.past_laws.proofs.RowFacts as from
use Rattle.past_laws.proofs.pasts.row_tells.Goals as goal

pub returns : goal.returns
returns c = from.row_tells
