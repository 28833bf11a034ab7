use Rattle.std.proofs.Common.{◌≡◌, ℕ, ◌≤◌, length}
use Rattle.gcx_model.specs.Tree.{Node, serial_of}
use Rattle.trace_check.specs.Wanting.{by_node}
use Rattle.trace_check.proofs.Raised.{raised}
use Rattle.trace_check.proofs.leaving.raise.Given as goal

abbrev pub invariant-loop-node : goal.invariant-loop-node
invariant-loop-node l = record {
  raised : (f : Node → ℕ) → l.fn.last ≡ by_node l.tree f → l.last ≡ by_node l.tree (λ n. raised l.tree f l.node (serial_of n));
  within : l.node ≤ length l.last;
}

abbrev pub decreases-loop-node : goal.decreases-loop-node
decreases-loop-node l = l.node
