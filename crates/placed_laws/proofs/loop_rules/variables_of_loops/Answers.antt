use Rattle.placed_laws.proofs.Straight as from
use Rattle.placed_laws.proofs.loop_rules.variables_of_loops.Goals as goal

pub returns : goal.returns
returns c = from.variables_of_loops
