use Rattle.spread_laws.proofs.Tables as from
use Rattle.spread_laws.proofs.keeping.tables_built.Goals as goal

pub returns : goal.returns
returns c = from.tables_built
