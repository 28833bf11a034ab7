use Rattle.placed_laws.proofs.Balances as from
use Rattle.placed_laws.proofs.balance.empty_at_end.Goals as goal

pub returns : goal.returns
returns c = from.empty_law
