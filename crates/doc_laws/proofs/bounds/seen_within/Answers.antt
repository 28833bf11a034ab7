use Rattle.doc_laws.proofs.TreeBounds as from
use Rattle.doc_laws.proofs.bounds.seen_within.Goals as goal

pub returns : goal.returns
returns c = from.seen_within
