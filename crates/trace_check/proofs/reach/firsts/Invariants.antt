use Rattle.std.proofs.Common.{take}
use Rattle.trace_check.specs.Reaching.{Covers, is_first_of}
use Rattle.trace_check.proofs.reach.firsts.Given as goal

abbrev pub invariant-loop-node : goal.invariant-loop-node
invariant-loop-node l = Covers l.tree l.ranges.items (is_first_of l.tree (take l.node-index l.nodes) l.tail)
