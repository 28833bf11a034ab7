use Rattle.placed_laws.proofs.Lasting as from
use Rattle.placed_laws.proofs.given.given_stays.Goals as goal

pub returns : goal.returns
returns c = from.given_stays
