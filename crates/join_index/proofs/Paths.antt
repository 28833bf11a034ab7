-- A path and an operand that are compared.
use Rattle.std.proofs.Common.{◌≡◌, List, [], sym, ◌∙◌, ap}
use Rattle.gcx_base.specs.declared.ids.VarId.{VarId}
use Rattle.gcx_base.specs.declared.steps.Step.{Step}
use Rattle.gcx_model.specs.Core.{OperandTree, Path, Str, Num}
use Rattle.gcx_model.specs.CondView.{operand_tree}
use Rattle.gcx_model.specs.declared.cond.Operand.{Operand}
use Rattle.gcx_model.specs.declared.cond.Operand.TheVariants as operand
use Rattle.join_index.specs.declared.equality.Side.{Side}
use Rattle.join_index.specs.Equalities.{path_of_side}

abbrev steps_in : OperandTree → List Step
steps_in (Path x s) = s
steps_in (Str b) = []
steps_in (Num u) = []

module _ (s : Side) (o : Operand) (x : VarId) (steps : List Step) (is : o ≡ operand.Path x steps) where
  pub path_there : s.var.0 ≡ x.0 → s.steps ≡ steps → path_of_side s ≡ operand_tree o
  path_there e f = ap (λ n. Path n s.steps) e ∙ (ap (Path x.0) f ∙ sym (ap operand_tree is))

  pub path_steps : path_of_side s ≡ operand_tree o → s.steps ≡ steps
  path_steps e = ap steps_in (e ∙ ap operand_tree is)
