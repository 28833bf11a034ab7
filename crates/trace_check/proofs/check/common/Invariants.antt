use Rattle.std.proofs.Common.{◌≡◌, ◌≤◌, ◌-◌, length, take}
use Rattle.trace_check.proofs.check.common.Given as goal

abbrev pub invariant-loop-count : goal.invariant-loop-count
invariant-loop-count l = record {
  within_left : l.count ≤ length l.left;
  within_right : l.count ≤ length l.right;
  same : take l.count l.left ≡ take l.count l.right;
}

abbrev pub decreases-loop-count : goal.decreases-loop-count
decreases-loop-count l = length l.left - l.count
