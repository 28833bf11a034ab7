use Rattle.std.proofs.Common.{◌≡◌, take}
use Rattle.gcx_base.proofs.steps.Steps.copy.Given as goal

abbrev pub invariant-loop-step : goal.invariant-loop-step
invariant-loop-step l = l.copied ≡ take l.step-index l.step-items
