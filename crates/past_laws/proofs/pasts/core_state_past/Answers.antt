use Rattle.past_laws.proofs.PastForms as from
use Rattle.past_laws.proofs.pasts.core_state_past.Goals as goal

pub returns : goal.returns
returns c = from.core_state_past
