use Rattle.spread_laws.proofs.Tops as from
use Rattle.spread_laws.proofs.keeping.kept_are_live.Goals as goal

pub returns : goal.returns
returns c = from.kept_are_live
