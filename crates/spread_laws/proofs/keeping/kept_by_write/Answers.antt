use Rattle.spread_laws.proofs.Acted as from
use Rattle.spread_laws.proofs.keeping.kept_by_write.Goals as goal

pub returns : goal.returns
returns c = from.kept_by_write
