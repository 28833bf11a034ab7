-- The equalities of a plan (this project's: an equality of two paths with different variables is answered by look-ups).
use Rattle.std.specs.Prelude.{◌≡◌, ◌≢◌, ◌⊎◌, ◌↔◌, cond, ltb, List, None}
use Rattle.gcx_base.specs.declared.rel.Rel.TheVariants.{Eq}
use Rattle.gcx_model.specs.Members.{In}
use Rattle.gcx_model.specs.Core.{OperandTree, Path, Str, Num, CondTree, CondTrees, Always, Exists, Compare, Not, AllOf, AnyOf, no_cond, more_conds, ItemTree, BodyTree, Write, Copy, For, If, SignOff, Nil, Then}
use Rattle.cond_memo.specs.Waiting.{Fits}
use Rattle.join_index.specs.declared.equality.Side.{Side}
use Rattle.join_index.specs.declared.equality.Equality.{Equality}

-- the path of a side
abbrev pub path_of_side : Side → OperandTree
path_of_side s = Path s.var.0 s.steps

-- two paths whose variables differ
abbrev pub VariablesDiffer : (left right : OperandTree) → Type 0
VariablesDiffer (Path x p) (Path y q) = x ≢ y
VariablesDiffer (Path x p) (Str b) = ⊥
VariablesDiffer (Path x p) (Num u) = ⊥
VariablesDiffer (Str b) r = ⊥
VariablesDiffer (Num u) r = ⊥

-- the condition, the body has the equality of these two
abbrev mutual
  pub CondHas : (left right : OperandTree) → CondTree → Type 0
  CondHas l r Always = ⊥
  CondHas l r (Exists x steps) = ⊥
  CondHas l r (Compare left rel right) = (left ≡ l) × (rel ≡ Eq) × (right ≡ r)
  CondHas l r (Not c) = CondHas l r c
  CondHas l r (AllOf cs) = SomeHas l r cs
  CondHas l r (AnyOf cs) = SomeHas l r cs

  pub SomeHas : (left right : OperandTree) → CondTrees → Type 0
  SomeHas l r no_cond = ⊥
  SomeHas l r (more_conds c cs) = CondHas l r c ⊎ SomeHas l r cs

abbrev mutual
  pub ItemHas : (left right : OperandTree) → ItemTree → Type 0
  ItemHas l r (Write b) = ⊥
  ItemHas l r (Copy x) = ⊥
  ItemHas l r (For x y step d) = BodyHas l r d
  ItemHas l r (If c d e) = CondHas l r c ⊎ (BodyHas l r d ⊎ BodyHas l r e)
  ItemHas l r (SignOff o) = ⊥

  pub BodyHas : (left right : OperandTree) → BodyTree → Type 0
  BodyHas l r Nil = ⊥
  BodyHas l r (Then i d) = ItemHas l r i ⊎ BodyHas l r d

-- the equality of these two is in the list
pub record HasEquality (qs : List Equality) (l r : OperandTree) : Type 0 where
  pub equality : Equality
  pub among : In equality qs
  pub left : path_of_side equality.left ≡ l
  pub right : path_of_side equality.right ≡ r

-- the path whose variable hasn't the smaller number
abbrev pub inner_of : Equality → Side
inner_of q = cond (ltb q.left.var.0 q.right.var.0) q.right q.left

-- it has no list yet
pub record NothingKept (q : Equality) : Type 0 where
  pub list : q.list ≡ None
  pub steps : q.seen.steps ≡ (inner_of q).steps
  pub fits : Fits q.seen.steps q.seen.last

abbrev pub NoneKept : List Equality → Type 0
NoneKept qs = (q : Equality) → In q qs → NothingKept q

-- the list grows by these equalities, where their variables differ
abbrev pub GathersAll : (before now : List Equality) → (has : OperandTree → OperandTree → Type 0) → Type 0
GathersAll before now has = (l r : OperandTree) → HasEquality now l r ↔ (HasEquality before l r ⊎ (has l r × VariablesDiffer l r))
