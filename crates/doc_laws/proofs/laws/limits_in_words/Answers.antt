use Rattle.doc_laws.proofs.Within as from
use Rattle.doc_laws.proofs.laws.limits_in_words.Goals as goal

pub returns : goal.returns
returns c = from.within_limits
