use Rattle.std.proofs.Common.{◌≡◌, ◌++◌, string_bytes, flat_map, take}
use Rattle.xq_print.specs.Printed.{step_text}
use Rattle.xq_print.proofs.path.put_steps.Given as goal

abbrev pub invariant-loop-step : goal.invariant-loop-step
invariant-loop-step l = string_bytes l.out ≡ string_bytes l.fn.out ++ flat_map step_text (take l.step-index l.steps)
