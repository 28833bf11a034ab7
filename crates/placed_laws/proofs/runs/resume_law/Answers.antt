use Rattle.placed_laws.proofs.RunForms as from
use Rattle.placed_laws.proofs.runs.resume_law.Goals as goal

pub returns : goal.returns
returns c = from.resume_law
