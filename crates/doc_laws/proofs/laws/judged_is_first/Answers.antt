use Rattle.doc_laws.proofs.Faults as from
use Rattle.doc_laws.proofs.laws.judged_is_first.Goals as goal

pub returns : goal.returns
returns c = from.judged_tells
