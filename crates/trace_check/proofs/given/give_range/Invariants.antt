use Rattle.std.proofs.Common.{◌-◌, ◌≤◌, suc, length, max, All}
use Rattle.trace_check.specs.Wanting.{AreBelow, IsGivenTo}
use Rattle.trace_check.proofs.Entries.{so_far}
use Rattle.trace_check.proofs.given.give_range.Given as goal

abbrev pub invariant-loop-node : goal.invariant-loop-node
invariant-loop-node l = record {
  given : IsGivenTo l.role (so_far l.range.first l.node) l.fn.given l.given;
  below : All (AreBelow (suc l.role.0)) l.given;
  from : l.range.first ≤ l.node;
  most : l.node ≤ max l.range.first (suc l.range.last);
}

abbrev pub decreases-loop-node : goal.decreases-loop-node
decreases-loop-node l = length l.given - l.node
