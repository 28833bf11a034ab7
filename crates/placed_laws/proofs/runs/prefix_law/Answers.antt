use Rattle.placed_laws.proofs.RunForms as from
use Rattle.placed_laws.proofs.runs.prefix_law.Goals as goal

pub returns : goal.returns
returns c = from.prefix_law
