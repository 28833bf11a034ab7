use Rattle.placed_laws.proofs.Balances as from
use Rattle.placed_laws.proofs.balance.offs_at_matches.Goals as goal

pub returns : goal.returns
returns c = from.offs_at_matches
