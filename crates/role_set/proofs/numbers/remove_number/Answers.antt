use Rattle.std.proofs.Common.{rules, ◌==◌, not}
use Rattle.role_set.proofs.Sets.{filter_from_retain}
use Rattle.role_set.proofs.numbers.remove_number.Goals as goal

pub returns-clause-items : goal.returns-clause-items
returns-clause-items c = filter_from_retain _ (λ x. not (x == c.args.number)) _ (λ x b t y called. search rules) _ _ c.retain.ensures.filtered
