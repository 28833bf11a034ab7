use Rattle.xq_lex.proofs.GapLaws.{unclosed, comment_part}
use Rattle.xq_lex.proofs.gap.part_len.Goals as goal

pub returns-in_err-len-in_default : goal.returns-in_err-len-in_default
returns-in_err-len-in_default c =
    rw c.from_residual-in_err-len-in_default.ensures
    (unclosed c.args.text.now c.in_ok-inner-in_default.inner.now c.in_ok-inner-in_default.ensures c.in_err-len-in_default.ensures)

pub returns-in_ok-len-in_default : goal.returns-in_ok-len-in_default
returns-in_ok-len-in_default c =
    comment_part c.args.text.now c.in_ok-inner-in_default.inner.now c.in_ok-len-in_default.len c.in_ok-inner-in_default.ensures c.in_ok-len-in_default.ensures.0 c.in_ok-len-in_default.ensures.1
