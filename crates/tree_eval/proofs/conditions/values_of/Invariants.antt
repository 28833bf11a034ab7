use Rattle.std.proofs.Common.{◌≡◌, map, take}
use Rattle.tree_eval.specs.Operands.{value_in, values_at}
use Rattle.tree_eval.proofs.conditions.values_of.Given as goal

abbrev pub invariant-loop-node : goal.invariant-loop-node
invariant-loop-node l = map value_in l.values.items ≡ map (values_at l.tree) (take l.node-index l.nodes)
