use Rattle.placed_laws.proofs.RunForms as from
use Rattle.placed_laws.proofs.runs.point_law.Goals as goal

pub returns : goal.returns
returns c = from.point_law
