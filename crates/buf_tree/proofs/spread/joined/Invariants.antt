use Rattle.std.proofs.Common.{◌≡◌, ◌++◌, take}
use Rattle.buf_tree.proofs.spread.joined.Given as goal

abbrev pub invariant-loop-step : goal.invariant-loop-step
invariant-loop-step l = l.steps ≡ l.front ++ take l.step-index l.step-items
