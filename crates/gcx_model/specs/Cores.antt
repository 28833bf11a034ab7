-- Which cores the laws are for (this project's).
use Rattle.std.specs.Prelude.{◌≡◌, ℕ, Bool, true, false, List, [], ◌∷◌, length}
use Rattle.gcx_model.specs.Members.{In, count}
use Rattle.gcx_model.specs.Core.{OperandTree, Path, Str, Num, CondTree, CondTrees, Always, Exists, Compare, Not, AllOf, AnyOf, no_cond, more_conds, ItemTree, Write, Copy, For, If, SignOff, BodyTree, Nil, Then}
use Rattle.gcx_model.specs.Variables.{vars}

-- each variable that is used is one of these
abbrev pub operand_in : List ℕ → OperandTree → Type 0
operand_in L (Path x steps) = In x L
operand_in L (Str b) = Unit {0}
operand_in L (Num l) = Unit {0}

abbrev mutual
  pub cond_in : List ℕ → CondTree → Type 0
  cond_in L Always = Unit {0}
  cond_in L (Exists x steps) = In x L
  cond_in L (Compare l rel r) = operand_in L l × operand_in L r
  cond_in L (Not c) = cond_in L c
  cond_in L (AllOf cs) = conds_in L cs
  cond_in L (AnyOf cs) = conds_in L cs

  pub conds_in : List ℕ → CondTrees → Type 0
  conds_in L no_cond = Unit {0}
  conds_in L (more_conds c cs) = cond_in L c × conds_in L cs

-- Variables are used only inside their loops, no branch of an If has a loop, and no statement stands in the core.
-- L are the variables that may be used; b tells whether loops may come.
abbrev mutual
  pub ItemIn : (b : Bool) (L : List ℕ) → ItemTree → Type 0
  ItemIn b L (Write s) = Unit {0}
  ItemIn b L (Copy x) = In x L
  ItemIn b L (For x y s d) = (b ≡ true) × In y L × BodyIn b (x ∷ L) d
  ItemIn b L (If c d e) = cond_in L c × BodyIn false L d × BodyIn false L e
  ItemIn b L (SignOff o) = ⊥

  pub BodyIn : (b : Bool) (L : List ℕ) → BodyTree → Type 0
  BodyIn b L Nil = Unit {0}
  BodyIn b L (Then i d) = ItemIn b L i × BodyIn b L d

-- the variables are numbered from 1 as the core is read from the left
pub record Good (core : BodyTree) : Type 0 where
  pub numbered : vars core ≡ count 1 (length (vars core))
  pub inside : BodyIn true (0 ∷ []) core
