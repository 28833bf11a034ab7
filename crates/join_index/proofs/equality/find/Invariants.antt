use Rattle.std.proofs.Common.{◌-◌, length, take}
use Rattle.gcx_model.specs.CondView.{operand_tree}
use Rattle.join_index.specs.Equalities.{HasEquality}
use Rattle.join_index.proofs.equality.find.Given as goal

abbrev pub invariant-equalities : goal.invariant-equalities
invariant-equalities l = HasEquality (take l.index l.equalities) (operand_tree l.left) (operand_tree l.right) → ⊥

abbrev pub decreases-equalities : goal.decreases-equalities
decreases-equalities l = length l.equalities - l.index
