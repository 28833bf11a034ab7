use Rattle.std.proofs.Common.{◌≡◌, ◌≤◌, ◌-◌, List, length}
use Rattle.gcx_model.specs.Core.{PlanTree}
use Rattle.gcx_model.specs.Tree.{TreeToken}
use Rattle.trace_check.specs.Telling.{IsCourse, IsTelling}
use Rattle.trace_check.proofs.Tellings.{HasTold}
use Rattle.trace_check.proofs.telling.put_acts.Given as goal

abbrev pub invariant-acts : goal.invariant-acts
invariant-acts l = record {
  told : (plan : PlanTree) (ts : List TreeToken) → IsCourse plan ts l.course → IsTelling plan l.course l.now l.fn.told → HasTold plan l.course l.now l.fn.told l.told l.fn.text.items l.text.items;
  few : l.told.signed ≤ l.told.acts;
  opened : l.told.opened ≡ l.fn.told.opened;
}

abbrev pub decreases-acts : goal.decreases-acts
decreases-acts l = length l.course.acts.items - l.told.acts
