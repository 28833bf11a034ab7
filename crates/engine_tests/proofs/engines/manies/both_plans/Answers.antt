use Rattle.std.proofs.Common.{rules}
use Rattle.run_part.specs.Part.{IsOfCore}
use Rattle.engine_tests.proofs.Manies.{each_two}
use Rattle.engine_tests.proofs.engines.manies.both_plans.Goals as goal

pub returns-clause-placed : goal.returns-clause-placed
returns-clause-placed c = each_two IsOfCore c.in_ok-plan_of.field-0 c.in_ok-plan_of-2.field-0 c.push-2.new.self.items (search rules) c.in_ok-plan_of.ensures c.in_ok-plan_of-2.ensures
