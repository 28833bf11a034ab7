use Rattle.std.proofs.Common.{◌≡◌, map, drop}
use Rattle.gcx_model.specs.Paths.{any}
use Rattle.gcx_model.specs.Values.{compare}
use Rattle.tree_eval.specs.Operands.{value_in}
use Rattle.tree_eval.proofs.conditions.compares_some.Given as goal

abbrev pub invariant-loop-right : goal.invariant-loop-right
invariant-loop-right l = any (compare l.rel (value_in l.left)) (map value_in (drop l.right-index l.others)) ≡ any (compare l.rel (value_in l.left)) (map value_in l.others)
