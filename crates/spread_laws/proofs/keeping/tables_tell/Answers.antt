use Rattle.spread_laws.proofs.Tables as from
use Rattle.spread_laws.proofs.keeping.tables_tell.Goals as goal

pub returns : goal.returns
returns c = from.tables_tell
