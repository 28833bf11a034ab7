use Rattle.past_laws.proofs.Ahead as from
use Rattle.past_laws.proofs.pasts.ahead_signed.Goals as goal

pub returns : goal.returns
returns c = from.ahead_signed
