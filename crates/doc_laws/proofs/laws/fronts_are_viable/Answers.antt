use Rattle.doc_laws.proofs.Theorems as from
use Rattle.doc_laws.proofs.laws.fronts_are_viable.Goals as goal

pub returns : goal.returns
returns c = from.opens_viable
