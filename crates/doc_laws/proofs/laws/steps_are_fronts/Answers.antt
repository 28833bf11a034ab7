use Rattle.doc_laws.proofs.Theorems as from
use Rattle.doc_laws.proofs.laws.steps_are_fronts.Goals as goal

pub returns : goal.returns
returns c = from.steps_fronts
