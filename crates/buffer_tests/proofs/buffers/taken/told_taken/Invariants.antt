use Rattle.gcx_model.specs.PlanView.{plan_tree}
use Rattle.buffer_tests.specs.Buffers.{OwnPlain}
use Rattle.buffer_tests.proofs.buffers.taken.told_taken.Given as goal

abbrev pub invariant-loop-number : goal.invariant-loop-number
invariant-loop-number g l = OwnPlain (plan_tree l.plan) l.buffer
