use Rattle.placed_laws.proofs.Meaning as from
use Rattle.placed_laws.proofs.normal.normal_law.Goals as goal

pub returns : goal.returns
returns c = from.normal_law
