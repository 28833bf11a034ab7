use Rattle.past_laws.proofs.RowFacts as from
use Rattle.past_laws.proofs.pasts.kept_by_rows.Goals as goal

pub returns : goal.returns
returns c = from.kept_by_rows
