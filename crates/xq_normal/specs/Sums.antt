-- What the limits of a core count, and which core is refused (this project's).
use Rattle.std.specs.Prelude.{ℕ, ◌+◌, nat_lt, List, length, Option, Some, None, if◌then◌else◌}
use Rattle.gcx_model.specs.declared.fault.QueryFault.{QueryFault}
use Rattle.gcx_model.specs.declared.fault.QueryFault.TheVariants.{TooLarge}
use Rattle.gcx_model.specs.declared.fault.What.TheVariants.{Loops, Steps, Conditions}
use Rattle.gcx_model.specs.Core.{OperandTree, Path, Str, Num, CondTree, CondTrees, Always, Exists, Compare, Not, AllOf, AnyOf, no_cond, more_conds, ItemTree, Write, Copy, For, If, SignOff, BodyTree, Nil, Then}
use Rattle.gcx_model.specs.PlanView.{CoreTree}
use Rattle.gcx_model.specs.Query.{ExprTree}
use Rattle.gcx_model.specs.Normal.{normal}
use Rattle.gcx_model.specs.Variables.{vars, var_rows}
use Rattle.xq_normal.specs.ConditionText.{cond_text}

-- a body with the rows of its variables
abbrev pub with_rows : BodyTree → CoreTree
with_rows d = record { body = d; vars = var_rows d }

-- the core of the query
abbrev pub core_of : List ExprTree → CoreTree
core_of q = with_rows (normal q)

-- each loop has a variable
abbrev pub loops_of : BodyTree → ℕ
loops_of d = length (vars d)

-- the steps of all paths of a condition
abbrev pub operand_steps : OperandTree → ℕ
operand_steps (Path x steps) = length steps
operand_steps (Str bytes) = 0
operand_steps (Num units) = 0

abbrev mutual
  pub cond_steps : CondTree → ℕ
  cond_steps Always = 0
  cond_steps (Exists x steps) = length steps
  cond_steps (Compare left rel right) = operand_steps left + operand_steps right
  cond_steps (Not c) = cond_steps c
  cond_steps (AllOf cs) = conds_steps cs
  cond_steps (AnyOf cs) = conds_steps cs

  pub conds_steps : CondTrees → ℕ
  conds_steps no_cond = 0
  conds_steps (more_conds c cs) = cond_steps c + conds_steps cs

-- the bytes of a condition's text
abbrev pub cond_bytes : CondTree → ℕ
cond_bytes c = length (cond_text c)

-- the sum of a number over the conditions of all Ifs
abbrev mutual
  pub item_total : (CondTree → ℕ) → ItemTree → ℕ
  item_total number (Write s) = 0
  item_total number (Copy x) = 0
  item_total number (For x y s d) = total number d
  item_total number (If c a b) = number c + (total number a + total number b)
  item_total number (SignOff o) = 0

  pub total : (CondTree → ℕ) → BodyTree → ℕ
  total number Nil = 0
  total number (Then i d) = item_total number i + total number d

-- the steps of all paths in conditions, and the bytes of all conditions
abbrev pub condition_steps : BodyTree → ℕ
condition_steps d = total cond_steps d

abbrev pub condition_bytes : BodyTree → ℕ
condition_bytes d = total cond_bytes d

-- the first limit that the core's conditions pass
abbrev pub conditions_refusal : BodyTree → Option QueryFault
conditions_refusal d =
    if nat_lt 8000 (condition_steps d) then Some (TooLarge Steps 8000)
    else if nat_lt 8388608 (condition_bytes d) then Some (TooLarge Conditions 8388608)
    else None

-- the first limit that the core passes
abbrev pub refusal : BodyTree → Option QueryFault
refusal d = if nat_lt 500 (loops_of d) then Some (TooLarge Loops 500) else conditions_refusal d
