-- How a condition of a core is printed (this project's).
use Rattle.std.specs.Prelude.{ℕ, List, [], ◌∷◌, ◌++◌, map, codes}
use Rattle.std.specs.Fmt.{decimal}
use Rattle.gcx_base.specs.declared.steps.Axis.{Axis}
use Rattle.gcx_base.specs.declared.steps.Axis.TheVariants.{Child, Descendant}
use Rattle.gcx_base.specs.declared.steps.Step.{Step}
use Rattle.gcx_model.specs.Core.{OperandTree, Path, Str, Num, CondTree, CondTrees, Always, Exists, Compare, Not, AllOf, AnyOf, no_cond, more_conds}
use Rattle.xq_print.specs.Literals.{number_text, string_text}
use Rattle.xq_print.specs.Printed.{joined, rel_text, test_text}

abbrev pub axis_text : Axis → List ℕ
axis_text Child = codes "child::"
axis_text Descendant = codes "descendant::"

abbrev pub step_text : Step → List ℕ
step_text s = axis_text s.axis ++ test_text s.test

-- a list of steps, and a point where it is empty
abbrev pub steps_text : List Step → List ℕ
steps_text [] = codes "."
steps_text (s ∷ rest) = joined (codes "/") (map step_text (s ∷ rest))

-- a variable and the steps from it
abbrev pub path_text : ℕ → List Step → List ℕ
path_text x steps = decimal x ++ (codes "/" ++ steps_text steps)

abbrev pub operand_text : OperandTree → List ℕ
operand_text (Path x []) = decimal x
operand_text (Path x (s ∷ rest)) = path_text x (s ∷ rest)
operand_text (Str value) = string_text value
operand_text (Num units) = number_text units

abbrev mutual
  pub cond_text : CondTree → List ℕ
  cond_text Always = codes "true()"
  cond_text (Exists x steps) = codes "exists(" ++ (path_text x steps ++ codes ")")
  cond_text (Compare left rel right) = codes "(" ++ (operand_text left ++ (rel_text rel ++ (operand_text right ++ codes ")")))
  cond_text (Not inner) = codes "not(" ++ (cond_text inner ++ codes ")")
  cond_text (AllOf members) = codes "all(" ++ (joined (codes ", ") (cond_texts members) ++ codes ")")
  cond_text (AnyOf members) = codes "any(" ++ (joined (codes ", ") (cond_texts members) ++ codes ")")

  pub cond_texts : CondTrees → List (List ℕ)
  cond_texts no_cond = []
  cond_texts (more_conds c cs) = cond_text c ∷ cond_texts cs
