use Rattle.std.proofs.Common.{arith, length-drop}
use Rattle.xq_lex.proofs.GapLaws.{gap_on}
use Rattle.xq_lex.proofs.gap.gap_len.Goals as goal

pub loop-more-preserved : goal.loop-more-preserved
loop-more-preserved c =
    let part = rw c.split_at.ensures.back at c.in-Some.ensures in (
      omega (arith, part.0, c.loop-more.invariant.0, length-drop c.loop-more.len c.args.text.now),
      λ rest g. gap_on c.args.text.now rest c.loop-more.len c.in-Some.more c.loop-more.invariant.1 part.1 g,
    )
