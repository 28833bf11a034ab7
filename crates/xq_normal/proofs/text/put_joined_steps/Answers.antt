use Rattle.std.proofs.Common.{[], string_bytes, cond, arith}
use Rattle.std.specs.Prelude.{codes}
use Rattle.xq_normal.specs.ConditionText.{step_text}
use Rattle.xq_print.proofs.Joining.{one_joined, all_joined, after}
use Rattle.xq_normal.proofs.text.put_joined_steps.Goals as goal

pub loop-step-preserved : goal.loop-step-preserved
loop-step-preserved c =
    one_joined step_text (codes "/") (string_bytes c.args.out.now) c.args.steps.now c.loop-step.step-index c.step-item.result
    (string_bytes c.loop-step.out) (string_bytes c.put_step.new.out) c.loop-step.later c.loop-step.invariant (omega arith) c.step-item.is
    (after (string_bytes c.loop-step.out) (string_bytes c.put_where.new.out) (string_bytes c.put_step.new.out) (cond c.loop-step.later (codes "/") []) (step_text c.step-item.result)
    c.in_ok-put_where.ensures c.in_ok-put_step.ensures)

pub returns : goal.returns
returns c =
    all_joined step_text (codes "/") (string_bytes c.args.out.now) c.args.steps.now c.loop-step.step-index (string_bytes c.loop-step.out) c.loop-step.later c.loop-step.invariant (omega arith)
