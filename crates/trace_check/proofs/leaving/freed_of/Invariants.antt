use Rattle.std.proofs.Common.{◌≡◌, ◌≤◌, suc, length, map}
use Rattle.gcx_model.specs.Members.{count}
use Rattle.trace_check.specs.Wanting.{lists_in}
use Rattle.trace_check.proofs.Freed.{entries_from}
use Rattle.trace_check.proofs.leaving.freed_of.Given as goal

abbrev pub invariant-loop-node : goal.invariant-loop-node
invariant-loop-node l = record {
  freed : lists_in l.freed.items ≡ map (entries_from l.until l.node) (count 0 (suc l.count));
  within : l.node ≤ length l.until;
}

abbrev pub decreases-loop-node : goal.decreases-loop-node
decreases-loop-node l = l.node
