use Rattle.std.proofs.Common.{string_bytes}
use Rattle.std.specs.Prelude.{codes}
use Rattle.gcx_base.specs.declared.steps.Step.{Step}
use Rattle.xq_normal.specs.ConditionText.{step_text}
use Rattle.xq_print.proofs.Joining.{IsJoined}
use Rattle.xq_normal.proofs.text.put_joined_steps.Given as goal

abbrev pub invariant-loop-step : goal.invariant-loop-step
invariant-loop-step l = IsJoined Step step_text (codes "/") (string_bytes l.fn.out) l.steps l.step-index (string_bytes l.out) l.later
