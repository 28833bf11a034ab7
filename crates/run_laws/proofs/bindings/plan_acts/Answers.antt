use Rattle.run_laws.proofs.Free as from
use Rattle.run_laws.proofs.bindings.plan_acts.Goals as goal

pub returns : goal.returns
returns c = from.plan_acts
