use Rattle.std.proofs.Common.{◌≡◌, ℕ, take}
use Rattle.trace_check.specs.Reaching.{covers, is_among}
use Rattle.trace_check.proofs.reach.each.Given as goal

abbrev pub invariant-loop-node : goal.invariant-loop-node
invariant-loop-node l = (k : ℕ) → covers l.ranges.items k ≡ is_among (take l.node-index l.nodes) k
