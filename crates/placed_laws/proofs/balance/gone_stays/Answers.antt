use Rattle.placed_laws.proofs.Balances as from
use Rattle.placed_laws.proofs.balance.gone_stays.Goals as goal

pub returns : goal.returns
returns c = from.gone_stays
