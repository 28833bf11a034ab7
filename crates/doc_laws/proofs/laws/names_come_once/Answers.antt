use Rattle.doc_laws.proofs.Texts as from
use Rattle.doc_laws.proofs.laws.names_come_once.Goals as goal

pub returns : goal.returns
returns c = from.twice_fault
