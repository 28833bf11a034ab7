use Rattle.placed_laws.proofs.Balances as from
use Rattle.placed_laws.proofs.balance.once_law.Goals as goal

pub returns : goal.returns
returns c = from.once_law
