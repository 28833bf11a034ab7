use Rattle.pass_laws.proofs.Rounds as from
use Rattle.pass_laws.proofs.turns.last_rounds_pass.Goals as goal

pub returns : goal.returns
returns c = from.last_rounds_pass
