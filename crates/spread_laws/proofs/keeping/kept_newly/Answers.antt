use Rattle.spread_laws.proofs.Newly as from
use Rattle.spread_laws.proofs.keeping.kept_newly.Goals as goal

pub returns : goal.returns
returns c = from.kept_newly
