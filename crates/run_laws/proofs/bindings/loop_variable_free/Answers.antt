use Rattle.run_laws.proofs.Free as from
use Rattle.run_laws.proofs.bindings.loop_variable_free.Goals as goal

pub returns : goal.returns
returns c = from.loop_variable_free
