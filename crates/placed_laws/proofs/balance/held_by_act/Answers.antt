use Rattle.placed_laws.proofs.HeldChanges as from
use Rattle.placed_laws.proofs.balance.held_by_act.Goals as goal

pub returns : goal.returns
returns c = from.held_by_act
