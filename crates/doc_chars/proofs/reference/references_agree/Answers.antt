use Rattle.doc_chars.proofs.Agreement as from
use Rattle.doc_chars.proofs.reference.references_agree.Goals as goal

pub returns : goal.returns
returns c = from.references_agree
