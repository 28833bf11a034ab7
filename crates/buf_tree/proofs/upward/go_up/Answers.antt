use Rattle.buf_tree.proofs.Ways.{stepped_on, flags_up, flags_but}
use Rattle.buf_tree.proofs.upward.go_up.Goals as goal

pub steps-preserved : goal.steps-preserved
steps-preserved c = rw c.flag_up.ensures (stepped_on _ _ _ _ _ c.index-steps-i.result c.requires.count c.steps-test.true c.steps.invariant c.index-steps-i.is)

pub returns-clause-flags : goal.returns-clause-flags
returns-clause-flags c ends n p s d i e f = flags_up _ _ _ _ _ c.steps-test.false c.requires.count c.steps.invariant _ ends n p s d i e f

pub returns-clause-but : goal.returns-clause-but
returns-clause-but c ends n p s d i f = flags_but _ _ _ _ _ _ c.steps-test.false c.requires.count c.steps.invariant ends n p s d i f
