use Rattle.pass_laws.proofs.Guards as from
use Rattle.pass_laws.proofs.idle.guarded_are_quiet.Goals as goal

pub returns : goal.returns
returns c = from.guarded_are_quiet
