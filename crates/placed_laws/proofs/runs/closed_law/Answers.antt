use Rattle.placed_laws.proofs.RunForms as from
use Rattle.placed_laws.proofs.runs.closed_law.Goals as goal

pub returns : goal.returns
returns c = from.closed_law
