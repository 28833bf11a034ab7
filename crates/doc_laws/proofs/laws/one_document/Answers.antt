use Rattle.doc_laws.proofs.Theorems as from
use Rattle.doc_laws.proofs.laws.one_document.Goals as goal

pub returns : goal.returns
returns c = from.spells_one
