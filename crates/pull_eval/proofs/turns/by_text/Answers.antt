use Rattle.std.proofs.Common.{rules}
use Rattle.std.proofs.lemmas.List.Sorted.{answers_always}
use Rattle.pull_eval.proofs.TurnsByText.{entries_weak, is_entry_before}
use Rattle.pull_eval.proofs.turns.by_text.Goals as goal

pub returns-clause-sorted : goal.returns-clause-sorted
returns-clause-sorted c = c.in_ok-sort_by.ensures.sorted is_entry_before entries_weak (answers_always _ _ _ (λ f a r g h. search rules))
