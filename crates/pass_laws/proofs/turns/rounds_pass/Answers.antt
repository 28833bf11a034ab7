use Rattle.pass_laws.proofs.Rounds as from
use Rattle.pass_laws.proofs.turns.rounds_pass.Goals as goal

pub returns : goal.returns
returns c = from.rounds_pass
