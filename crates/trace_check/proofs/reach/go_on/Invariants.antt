use Rattle.std.proofs.Common.{◌≡◌, Bool, take}
use Rattle.gcx_model.specs.Tree.{Node}
use Rattle.trace_check.specs.Reaching.{numbers_of, stepped_on}
use Rattle.trace_check.proofs.reach.go_on.Given as goal

abbrev pub invariant-loop-step : goal.invariant-loop-step
invariant-loop-step l = (f : Node → Bool) → l.fn.nodes.items ≡ numbers_of l.tree f → l.nodes.items ≡ numbers_of l.tree (stepped_on (take l.step-index l.steps) f)
