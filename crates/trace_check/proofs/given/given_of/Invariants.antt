use Rattle.std.proofs.Common.{◌≡◌}
use Rattle.gcx_model.specs.PlanView.{plan_tree}
use Rattle.trace_check.proofs.Giving.{HasGiven}
use Rattle.trace_check.proofs.given.given_of.Given as goal

abbrev pub invariant-loop-row : goal.invariant-loop-row
invariant-loop-row l = record {
  given : HasGiven (plan_tree l.plan) l.tree l.row-index l.given.items;
  number : l.number ≡ l.row-index;
}
