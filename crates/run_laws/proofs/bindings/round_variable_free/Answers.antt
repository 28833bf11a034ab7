use Rattle.run_laws.proofs.Free as from
use Rattle.run_laws.proofs.bindings.round_variable_free.Goals as goal

pub returns : goal.returns
returns c = from.round_variable_free
