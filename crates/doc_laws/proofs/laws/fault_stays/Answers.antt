use Rattle.doc_laws.proofs.Pieces as from
use Rattle.doc_laws.proofs.laws.fault_stays.Goals as goal

pub returns : goal.returns
returns c = from.fault_stays
