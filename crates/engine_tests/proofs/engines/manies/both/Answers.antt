use Rattle.std.proofs.Common.{◌≡◌, ◌∙◌, [], sym, rules}
use Rattle.std.specs.FinMap as map_of
use Rattle.many_run.proofs.Turns.{counted_plans}
use Rattle.engine_tests.proofs.Manies.{each_two}
use Rattle.engine_tests.proofs.engines.manies.both.Goals as goal

pub new-requires-3-clause-empty : goal.new-requires-3-clause-empty
new-requires-3-clause-empty c = each_two (λ n. n.rows ≡ map_of.empty) c.new.result c.new-2.result c.push-2.new.self.items (search rules) c.new.ensures.rows c.new-2.ensures.rows

pub new-requires-3-clause-conds : goal.new-requires-3-clause-conds
new-requires-3-clause-conds c = λ i k at. tt

pub returns-clause-stands : goal.returns-clause-stands
returns-clause-stands c = record { limits = c.full.result; read = []; of = c.in_ok-new.ensures.of }

pub returns-clause-count : goal.returns-clause-count
returns-clause-count c = sym (counted_plans c.in_ok-new.field-0 c.args.plans.now c.in_ok-new.ensures.plans_are) ∙ c.requires.count
