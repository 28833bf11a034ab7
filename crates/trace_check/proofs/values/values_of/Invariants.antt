use Rattle.std.proofs.Common.{◌≡◌, map, take}
use Rattle.trace_check.specs.Settling.{timed_in, value_at}
use Rattle.trace_check.proofs.values.values_of.Given as goal

abbrev pub invariant-loop-node : goal.invariant-loop-node
invariant-loop-node l = map timed_in l.values.items ≡ map (value_at l.timed) (take l.node-index l.nodes)
