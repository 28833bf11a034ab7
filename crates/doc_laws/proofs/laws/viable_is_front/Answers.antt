use Rattle.doc_laws.proofs.Theorems as from
use Rattle.doc_laws.proofs.laws.viable_is_front.Goals as goal

pub returns : goal.returns
returns c = from.viable_opens
