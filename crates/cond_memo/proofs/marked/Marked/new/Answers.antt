use Rattle.std.proofs.Common.{List, sym, subst}
use Rattle.cond_memo.specs.Marks.{StandFor}
use Rattle.cond_memo.specs.Pairs.{ArePairs}
use Rattle.cond_memo.specs.declared.mark.Mark.{Mark}
use Rattle.cond_memo.specs.declared.pair.Pair.{Pair}
use Rattle.cond_memo.proofs.marked.Marked.new.Goals as goal

pub returns : goal.returns
returns c P = (
  subst (λ (ms : List Mark). StandFor ms P) (sym c.new.ensures.items) (record { each = λ m i. absurd i; once = tt }),
  subst (λ (qs : List Pair). ArePairs qs P) (sym c.new-2.ensures.items) (record { each = λ q i. absurd i; once = tt }),
)
