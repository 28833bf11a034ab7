use Rattle.tree_laws.proofs.OffsSigned as from
use Rattle.tree_laws.proofs.signing.signed_is_off.Goals as goal

pub returns : goal.returns
returns c = from.signed_is_off
