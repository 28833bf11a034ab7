use Rattle.move_laws.proofs.Unmoved as from
use Rattle.move_laws.proofs.quiet.quiet_token.Goals as goal

pub returns : goal.returns
returns c = from.quiet_token
