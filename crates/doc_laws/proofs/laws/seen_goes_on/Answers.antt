use Rattle.doc_laws.proofs.Growing as from
use Rattle.doc_laws.proofs.laws.seen_goes_on.Goals as goal

pub returns : goal.returns
returns c = from.seen_more
