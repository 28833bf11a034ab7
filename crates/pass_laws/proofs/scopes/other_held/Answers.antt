use Rattle.pass_laws.proofs.LoopFacts as from
use Rattle.pass_laws.proofs.scopes.other_held.Goals as goal

pub returns : goal.returns
returns c = from.other_held
