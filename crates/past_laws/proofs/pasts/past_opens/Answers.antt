use Rattle.past_laws.proofs.PastForms as from
use Rattle.past_laws.proofs.pasts.past_opens.Goals as goal

pub returns : goal.returns
returns c = from.past_opens
