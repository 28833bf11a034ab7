use Rattle.pass_laws.proofs.LoopFacts as from
use Rattle.pass_laws.proofs.scopes.turn_free.Goals as goal

pub returns : goal.returns
returns c = from.turn_free
