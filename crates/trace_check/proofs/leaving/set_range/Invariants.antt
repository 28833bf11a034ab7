use Rattle.std.proofs.Common.{◌≡◌, ◌-◌, ◌≤◌, suc, length, max}
use Rattle.trace_check.specs.Wanting.{set_where}
use Rattle.trace_check.proofs.Entries.{so_far}
use Rattle.trace_check.proofs.leaving.set_range.Given as goal

abbrev pub invariant-loop-node : goal.invariant-loop-node
invariant-loop-node l = record {
  last : l.last ≡ set_where (so_far l.range.first l.node) l.number l.fn.last;
  from : l.range.first ≤ l.node;
  most : l.node ≤ max l.range.first (suc l.range.last);
}

abbrev pub decreases-loop-node : goal.decreases-loop-node
decreases-loop-node l = length l.last - l.node
