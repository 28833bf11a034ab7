use Rattle.spread_laws.proofs.Tops as from
use Rattle.spread_laws.proofs.keeping.live_by_tops.Goals as goal

pub returns : goal.returns
returns c = from.live_by_tops
