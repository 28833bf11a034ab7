use Rattle.std.proofs.Common.{rules, sym, ◌∙◌}
use Rattle.trace_check.proofs.Memos.{same_lists}
use Rattle.trace_check.proofs.memo.are_same.Goals as goal

pub returns : goal.returns
returns c = λ e. same_lists _ (λ s t h. search rules) _ _ (sym c.eq.ensures ∙ e)
