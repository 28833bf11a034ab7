use Rattle.doc_laws.proofs.Words as from
use Rattle.doc_laws.proofs.laws.seen_is_longest.Goals as goal

pub returns : goal.returns
returns c = from.in_words
