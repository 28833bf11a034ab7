use Rattle.gcx_model.specs.PlanView.{plan_tree}
use Rattle.buffer_tests.specs.Buffers.{IsFed}
use Rattle.buffer_tests.proofs.buffers.follow_all.Given as goal

abbrev pub invariant-loop-word : goal.invariant-loop-word
invariant-loop-word g l = IsFed (plan_tree l.plan) l.reader l.projector l.buffer
