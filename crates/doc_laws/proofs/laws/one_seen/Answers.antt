use Rattle.doc_laws.proofs.LastTag as from
use Rattle.doc_laws.proofs.laws.one_seen.Goals as goal

pub returns : goal.returns
returns c = from.seen_one
