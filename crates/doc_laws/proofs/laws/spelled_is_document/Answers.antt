use Rattle.doc_laws.proofs.Documents as from
use Rattle.doc_laws.proofs.laws.spelled_is_document.Goals as goal

pub returns : goal.returns
returns c = from.spells_document
