use Rattle.placed_laws.proofs.Straight as from
use Rattle.placed_laws.proofs.loop_rules.straight_by_loop.Goals as goal

pub returns : goal.returns
returns c = from.straight_by_loop
