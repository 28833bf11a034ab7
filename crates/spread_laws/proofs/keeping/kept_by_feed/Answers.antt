use Rattle.spread_laws.proofs.Opened as from
use Rattle.spread_laws.proofs.keeping.kept_by_feed.Goals as goal

pub returns : goal.returns
returns c = from.kept_by_feed
