use Rattle.std.proofs.Common.{◌≡◌, ◌≤◌, ◌-◌, length, take}
use Rattle.cond_memo.proofs.marked.are_same.Given as goal

abbrev pub invariant-steps : goal.invariant-steps
invariant-steps l = record {
  low : l.i ≤ length l.steps;
  same : take l.i l.kept ≡ take l.i l.steps;
}

abbrev pub decreases-steps : goal.decreases-steps
decreases-steps l = length l.steps - l.i
