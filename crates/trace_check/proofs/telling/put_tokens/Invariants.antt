use Rattle.std.proofs.Common.{◌≤◌, List}
use Rattle.gcx_model.specs.Core.{PlanTree}
use Rattle.gcx_model.specs.Tree.{TreeToken}
use Rattle.trace_check.specs.Telling.{IsCourse, IsToldTo}
use Rattle.trace_check.proofs.TokensTold.{HasToldTokens}
use Rattle.trace_check.proofs.telling.put_tokens.Given as goal

abbrev pub invariant-loop-index : goal.invariant-loop-index
invariant-loop-index l = record {
  told : (plan : PlanTree) (ts : List TreeToken) → IsCourse plan ts l.course → IsToldTo plan l.course 0 l.fn.told → HasToldTokens plan ts l.course l.index l.fn.text.items l.told l.text.items;
  few : l.told.signed ≤ l.told.acts;
  opened : l.told.opened ≤ l.index;
}
