use Rattle.doc_laws.proofs.LastTag as from
use Rattle.doc_laws.proofs.laws.seen_is_closed.Goals as goal

pub returns : goal.returns
returns c = from.last_tag
