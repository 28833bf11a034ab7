use Rattle.placed_laws.proofs.PlanStatements as from
use Rattle.placed_laws.proofs.plans.one_statement.Goals as goal

pub returns : goal.returns
returns c = from.one_statement_law
