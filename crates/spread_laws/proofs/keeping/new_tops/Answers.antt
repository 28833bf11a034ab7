use Rattle.spread_laws.proofs.Opened as from
use Rattle.spread_laws.proofs.keeping.new_tops.Goals as goal

pub returns : goal.returns
returns c = from.new_tops
