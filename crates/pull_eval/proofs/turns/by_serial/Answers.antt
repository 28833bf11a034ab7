use Rattle.std.proofs.Common.{rules}
use Rattle.std.proofs.lemmas.List.Sorted.{IsNonDecreasingBy-from_sort_by}
use Rattle.cond_eval.specs.declared.sets.Member.{Member}
use Rattle.pull_eval.proofs.turns.by_serial.Goals as goal

pub returns-clause-sorted : goal.returns-clause-sorted
returns-clause-sorted c = IsNonDecreasingBy-from_sort_by (λ (h : Member). h.serial) _ c.in_ok-sort_by.ensures.sorted (λ a r q k. search rules)
