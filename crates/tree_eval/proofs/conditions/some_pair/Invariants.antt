use Rattle.std.proofs.Common.{◌≡◌, map, drop}
use Rattle.gcx_model.specs.Values.{compare}
use Rattle.gcx_model.specs.Answer.{some_pair}
use Rattle.tree_eval.specs.Operands.{value_in}
use Rattle.tree_eval.proofs.conditions.some_pair.Given as goal

abbrev pub invariant-loop-value : goal.invariant-loop-value
invariant-loop-value l = some_pair (compare l.rel) (map value_in (drop l.value-index l.left)) (map value_in l.right) ≡ some_pair (compare l.rel) (map value_in l.left) (map value_in l.right)
