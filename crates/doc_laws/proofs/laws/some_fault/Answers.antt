use Rattle.doc_laws.proofs.Found as from
use Rattle.doc_laws.proofs.laws.some_fault.Goals as goal

pub returns : goal.returns
returns c = from.found
