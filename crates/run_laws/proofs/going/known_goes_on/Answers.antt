use Rattle.run_laws.proofs.Goes as from
use Rattle.run_laws.proofs.going.known_goes_on.Goals as goal

pub returns : goal.returns
returns c = from.known_goes_on
