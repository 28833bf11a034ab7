use Rattle.past_laws.proofs.Bases as from
use Rattle.past_laws.proofs.pasts.live_by_bases.Goals as goal

pub returns : goal.returns
returns c = from.live_by_bases
