-- Bodies that do nothing where a comparison is false.
use Rattle.std.specs.Prelude.{◌≡◌, ℕ, true, [], ◌∷◌, ◌⊎◌}
use Rattle.gcx_base.specs.declared.rel.Rel.{Rel}
use Rattle.gcx_base.specs.declared.rel.Rel.TheVariants.{Eq, Ne, Lt, Le, Gt, Ge}
use Rattle.gcx_model.specs.Tree.{Node, serial_of, Tree, opening, is_closed}
use Rattle.gcx_model.specs.Paths.{matches}
use Rattle.gcx_model.specs.Members.{In}
use Rattle.gcx_model.specs.Core.{OperandTree, Path, Str, Num, CondTree, Always, Exists, Compare, Not, AllOf, AnyOf}
use Rattle.gcx_model.specs.Core.{CondTrees, no_cond, more_conds, RoleRowTree}
use Rattle.gcx_model.specs.Core.{ItemTree, Write, Copy, For, If, SignOff, BodyTree, Nil, Then}
use Rattle.gcx_model.specs.declared.truth.Truth.TheVariants.{False}
use Rattle.gcx_model.specs.Truth.{Env, bind_var, truth, is_over}
use Rattle.gcx_model.specs.Run.{idle, run}
use Rattle.gcx_model.specs.Growth.{Leads}
use Rattle.gcx_model.specs.Roles.{cond_rows}

-- nothing is done in the body, and nothing comes
abbrev pub IsQuiet : BodyTree → Env → Tree → Type 0
IsQuiet d env P = run d env P ≡ idle true

-- it is the comparison of these two operands by `=`
abbrev pub IsEqual : (l r : OperandTree) → (left right : OperandTree) → Rel → Type 0
IsEqual l r left right Eq = (left ≡ l) × (right ≡ r)
IsEqual l r left right Ne = ⊥
IsEqual l r left right Lt = ⊥
IsEqual l r left right Le = ⊥
IsEqual l r left right Gt = ⊥
IsEqual l r left right Ge = ⊥

-- it is that comparison, or one of its members is
abbrev mutual
  pub AsksEqual : (l r : OperandTree) → CondTree → Type 0
  AsksEqual l r Always = ⊥
  AsksEqual l r (Exists x steps) = ⊥
  AsksEqual l r (Compare left rel right) = IsEqual l r left right rel
  AsksEqual l r (Not c) = ⊥
  AsksEqual l r (AllOf cs) = SomeAsksEqual l r cs
  AsksEqual l r (AnyOf cs) = ⊥

  pub SomeAsksEqual : (l r : OperandTree) → CondTrees → Type 0
  SomeAsksEqual l r no_cond = ⊥
  SomeAsksEqual l r (more_conds c cs) = AsksEqual l r c ⊎ SomeAsksEqual l r cs

-- the operand isn't a path from the variable
abbrev pub IsNotFrom : ℕ → OperandTree → Type 0
IsNotFrom z (Path x steps) = z ≡ x → ⊥
IsNotFrom z (Str b) = Unit {0}
IsNotFrom z (Num l) = Unit {0}

-- nothing is done in it where the comparison is false
abbrev mutual
  pub IsGuardedItem : (l r : OperandTree) → ItemTree → Type 0
  IsGuardedItem l r (Write b) = ⊥
  IsGuardedItem l r (Copy x) = ⊥
  IsGuardedItem l r (For z y s d) = IsNotFrom z l × IsNotFrom z r × IsGuarded l r d
  IsGuardedItem l r (If c a b) = AsksEqual l r c × (b ≡ Nil)
  IsGuardedItem l r (SignOff o) = ⊥

  pub IsGuarded : (l r : OperandTree) → BodyTree → Type 0
  IsGuarded l r Nil = Unit {0}
  IsGuarded l r (Then i d) = IsGuardedItem l r i × IsGuarded l r d

-- no more nodes come for what the condition asks about
abbrev mutual
  pub IsSettled : Tree → Env → CondTree → Type 0
  IsSettled P env Always = Unit {0}
  IsSettled P env (Exists x steps) = is_closed P (env x) ≡ true
  IsSettled P env (Compare l rel r) = (is_over P env l ≡ true) × (is_over P env r ≡ true)
  IsSettled P env (Not c) = IsSettled P env c
  IsSettled P env (AllOf cs) = AreSettled P env cs
  IsSettled P env (AnyOf cs) = AreSettled P env cs

  pub AreSettled : Tree → Env → CondTrees → Type 0
  AreSettled P env no_cond = Unit {0}
  AreSettled P env (more_conds c cs) = IsSettled P env c × AreSettled P env cs

-- nor for the loops and the conditions of the body
abbrev mutual
  pub IsItemSettled : Tree → Env → ItemTree → Type 0
  IsItemSettled P env (Write b) = Unit {0}
  IsItemSettled P env (Copy x) = Unit {0}
  IsItemSettled P env (For z y s d) = (is_closed P (env y) ≡ true)
      × ((m : Node) → In m (matches P (serial_of (env y)) (s ∷ [])) → IsBodySettled P (bind_var env z m) d)
  IsItemSettled P env (If c a b) = IsSettled P env c
  IsItemSettled P env (SignOff o) = Unit {0}

  pub IsBodySettled : Tree → Env → BodyTree → Type 0
  IsBodySettled P env Nil = Unit {0}
  IsBodySettled P env (Then i d) = IsItemSettled P env i × IsBodySettled P env d

-- In a guarded body nothing is done where the comparison is false and no more nodes come.
abbrev pub GuardedAreQuiet : Type 0
GuardedAreQuiet = (P : Tree) (l r : OperandTree) (d : BodyTree) (env : Env)
    → IsGuarded l r d → IsBodySettled P env d → truth (Compare l Eq r) env P ≡ False → IsQuiet d env P

-- a loop of the body takes its step from the variable, or a condition of it asks about it, and it isn't bound within
-- the body
abbrev mutual
  pub FreeInItem : ℕ → ItemTree → Type 0
  FreeInItem z (Write b) = ⊥
  FreeInItem z (Copy x) = ⊥
  FreeInItem z (For x y s d) = (y ≡ z) ⊎ (FreeIn z d × (z ≡ x → ⊥))
  FreeInItem z (If c a b) = (r : RoleRowTree) × In r (cond_rows c) × (r.var ≡ z)
  FreeInItem z (SignOff o) = ⊥

  pub FreeIn : ℕ → BodyTree → Type 0
  FreeIn z Nil = ⊥
  FreeIn z (Then i d) = FreeInItem z i ⊎ FreeIn z d

-- Where these are bound to closed nodes, no more nodes come for the loops and the conditions of the body.
abbrev pub ClosedAreSettled : Type 0
ClosedAreSettled = (P : Tree) → Leads opening P → (d : BodyTree) (env : Env)
    → ((z : ℕ) → FreeIn z d → is_closed P (env z) ≡ true) → IsBodySettled P env d
