use Rattle.spread_laws.proofs.Acted as from
use Rattle.spread_laws.proofs.keeping.alone_takes.Goals as goal

pub returns : goal.returns
returns c = from.alone_takes
