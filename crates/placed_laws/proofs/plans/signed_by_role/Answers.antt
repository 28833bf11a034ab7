use Rattle.placed_laws.proofs.PlanStatements as from
use Rattle.placed_laws.proofs.plans.signed_by_role.Goals as goal

pub returns : goal.returns
returns c = from.signed_by_role
