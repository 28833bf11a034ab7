use Rattle.pull_eval.specs.Guards.{left_path, right_path}
use Rattle.pull_eval.proofs.Guarding.{member_asks}
use Rattle.pull_eval.proofs.guard.+needs.Goals as goal

pub returns-then-needs : goal.returns-then-needs
returns-then-needs t c = λ h.
    member_asks (left_path c.args.guard.now) (right_path c.args.guard.now) c.args.cond.now c.in-All.conds c.items-inner-items.result.now c.loop-inner.inner-index c.inner-item.result c.in-All.is c.items-inner-items.ensures.trees c.loop-inner-test.true c.inner-item.is
    (c.needs.ensures c.if-needs.true)
