use Rattle.placed_laws.proofs.PlanWriting as from
use Rattle.placed_laws.proofs.plans.plan_writes.Goals as goal

pub returns : goal.returns
returns c = from.plan_writes
