-- The equality without which a loop's body does nothing. Private functions alone speak of it.
use Rattle.std.specs.Prelude.{◌≡◌, ◌<◌, ℕ, false, cond, List, Some}
use Rattle.std.specs.FinMap.{get}
use Rattle.gcx_base.specs.declared.rel.Rel.TheVariants.{Eq}
use Rattle.gcx_model.specs.Members.{In}
use Rattle.gcx_model.specs.Core.{OperandTree, Path, CondTree, Compare, ItemTree, BodyTree, RoleRowTree}
use Rattle.gcx_model.specs.Roles.{cond_rows}
use Rattle.pass_laws.specs.Idle.{IsGuarded}
use Rattle.pass_laws.specs.Scopes.{AsksIn, UsesIn, UsesInItem}
use Rattle.buf_tree.specs.Shape.{Cell}
use Rattle.buf_tree.specs.View.{InUse}
use Rattle.cond_eval.specs.Bindings.{Bindings}
use Rattle.pull_eval.specs.declared.guard.Guard.{Guard}

-- the path from the loop's variable, and the other one
abbrev pub own_path : Guard → OperandTree
own_path g = Path g.own_var.0 g.own.now

abbrev pub other_path : Guard → OperandTree
other_path g = Path g.other_var.0 g.other.now

-- the sides of the equality
abbrev pub left_path : Guard → OperandTree
left_path g = cond g.is_left (own_path g) (other_path g)

abbrev pub right_path : Guard → OperandTree
right_path g = cond g.is_left (other_path g) (own_path g)

-- what the equality of these two asks about, the condition, the body asks about
abbrev pub AsksRows : (l r : OperandTree) → CondTree → Type 0
AsksRows l r c = (q : RoleRowTree) → In q (cond_rows (Compare l Eq r)) → In q (cond_rows c)

abbrev pub AsksRowsIn : (l r : OperandTree) → BodyTree → Type 0
AsksRowsIn l r e = (q : RoleRowTree) → In q (cond_rows (Compare l Eq r)) → AsksIn q e

-- the equality is that of a path from the loop's variable and one from a variable with a smaller number
pub record IsJoin (g : Guard) (var : ℕ) : Type 0 where
  pub own : g.own_var.0 ≡ var
  pub other : g.other_var.0 < var

-- It is such an equality, the body does nothing where it is false, and some condition of the body asks about both of its paths.
pub record IsGuardOf (g : Guard) (var : ℕ) (e : BodyTree) : Type 0 where
  pub own : g.own_var.0 ≡ var
  pub other : g.other_var.0 < var
  pub guarded : IsGuarded (left_path g) (right_path g) e
  pub asks : AsksRowsIn (left_path g) (right_path g) e

-- ---- the variables that are used

-- so is each variable from which a loop of the body takes its step or about which a condition of it asks
abbrev pub EachUsed : (is : ℕ → Type 0) → BodyTree → Type 0
EachUsed is e = (z : ℕ) → UsesIn z e → is z

abbrev pub EachUsedInItem : (is : ℕ → Type 0) → ItemTree → Type 0
EachUsedInItem is i = (z : ℕ) → UsesInItem z i → is z

-- so is the variable of each row
abbrev pub EachAsked : (is : ℕ → Type 0) → List RoleRowTree → Type 0
EachAsked is qs = (q : RoleRowTree) → In q qs → is q.var

-- if the variable has a smaller number than x, it is bound to a row
abbrev pub IsBoundBelow : List Cell → Bindings → (x z : ℕ) → Type 0
IsBoundBelow rows bound x z = z < x → (p : ℕ) × (s : ℕ) × (get bound z ≡ Some (p, s)) × InUse rows p

-- and its node is closed
abbrev pub IsClosedBelow : List Cell → Bindings → (x z : ℕ) → Type 0
IsClosedBelow rows bound x z = z < x → (p s : ℕ) → get bound z ≡ Some (p, s) → (c : Cell) → In c rows → c.place ≡ p → c.row.is_open ≡ false

-- the variables that the body uses and that have smaller numbers than this one are bound to rows
abbrev pub AreBoundBelow : List Cell → Bindings → (x : ℕ) → BodyTree → Type 0
AreBoundBelow rows bound x e = EachUsed (IsBoundBelow rows bound x) e

-- and the nodes of these are closed
abbrev pub AreClosedBelow : List Cell → Bindings → (x : ℕ) → BodyTree → Type 0
AreClosedBelow rows bound x e = EachUsed (IsClosedBelow rows bound x) e
