use Rattle.placed_laws.proofs.PlanStatements as from
use Rattle.placed_laws.proofs.plans.paths_by_rows.Goals as goal

pub returns : goal.returns
returns c = from.paths_by_rows
