use Rattle.spread_laws.proofs.Acted as from
use Rattle.spread_laws.proofs.keeping.tops_by_rows.Goals as goal

pub returns : goal.returns
returns c = from.tops_by_rows
