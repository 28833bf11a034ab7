use Rattle.placed_laws.proofs.Balances as from
use Rattle.placed_laws.proofs.balance.taken_stays.Goals as goal

pub returns : goal.returns
returns c = from.taken_law
