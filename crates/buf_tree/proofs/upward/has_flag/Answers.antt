use Rattle.std.proofs.Common.{sym}
use Rattle.buf_tree.proofs.Hitting.{flag_at, flag_next, flag_end}
use Rattle.buf_tree.proofs.upward.has_flag.Goals as goal

pub returns-then-flag : goal.returns-then-flag
returns-then-flag c = sym (flag_at c.args.flags.now c.loop-flag.flag-index c.loop-flag-test.true c.if-flag.true)

pub loop-flag-preserved : goal.loop-flag-preserved
loop-flag-preserved c = flag_next c.args.flags.now c.loop-flag.flag-index c.loop-flag-test.true c.loop-flag.invariant c.if-flag.false

pub returns : goal.returns
returns c = sym (flag_end c.args.flags.now c.loop-flag.flag-index c.loop-flag-test.false c.loop-flag.invariant)
