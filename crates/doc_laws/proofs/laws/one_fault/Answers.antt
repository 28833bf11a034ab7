use Rattle.doc_laws.proofs.Unique as from
use Rattle.doc_laws.proofs.laws.one_fault.Goals as goal

pub returns : goal.returns
returns c = from.fault_one
