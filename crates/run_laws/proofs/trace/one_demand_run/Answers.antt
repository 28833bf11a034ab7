use Rattle.run_laws.proofs.Traces as from
use Rattle.run_laws.proofs.trace.one_demand_run.Goals as goal

pub returns : goal.returns
returns c = from.one_demand_run
