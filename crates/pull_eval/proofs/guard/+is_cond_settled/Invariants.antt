use Rattle.gcx_model.specs.CondView.{core_cond_tree}
use Rattle.pull_eval.specs.Guards.{IsClosedBelow}
use Rattle.pull_eval.proofs.Guarding.{AskedTo, weigh_cond}
use Rattle.pull_eval.proofs.guard.+is_cond_settled.Given as goal

abbrev pub invariant-loop-inner : goal.invariant-loop-inner
invariant-loop-inner g l = AskedTo (IsClosedBelow l.buffer.rows l.env l.var.0) l.inner-items l.inner-index

abbrev pub decreases-is_cond_settled : goal.decreases-is_cond_settled
decreases-is_cond_settled g l = weigh_cond (core_cond_tree l.cond.now)
