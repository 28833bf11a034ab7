use Rattle.std.proofs.Common.{◌≡◌, Bool, take}
use Rattle.gcx_model.specs.Tree.{Node}
use Rattle.trace_check.specs.Reaching.{numbers_of}
use Rattle.trace_check.proofs.Ranges.{HasSubtrees}
use Rattle.trace_check.proofs.reach.subtrees.Given as goal

abbrev pub invariant-loop-node : goal.invariant-loop-node
invariant-loop-node l = (f : Node → Bool) → l.nodes ≡ numbers_of l.tree f → HasSubtrees l.tree (take l.node-index l.nodes) l.done l.ranges.items
