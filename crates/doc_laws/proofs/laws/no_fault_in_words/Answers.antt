use Rattle.doc_laws.proofs.Within as from
use Rattle.doc_laws.proofs.laws.no_fault_in_words.Goals as goal

pub returns : goal.returns
returns c = from.no_fault_within
