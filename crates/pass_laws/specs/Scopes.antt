-- What the body of a loop uses and asks about, and that it is held where the loop stands.
use Rattle.std.specs.Prelude.{◌≡◌, ◌<◌, ℕ, true, List, [], ◌∷◌, ◌++◌, ◌⊎◌}
use Rattle.gcx_base.specs.declared.steps.Step.{Step}
use Rattle.gcx_model.specs.Tree.{Node, serial_of, Tree}
use Rattle.gcx_model.specs.Paths.{matches}
use Rattle.gcx_model.specs.Members.{In}
use Rattle.gcx_model.specs.Core.{ItemTree, Write, Copy, For, If, SignOff, BodyTree, Nil, Then, RoleRowTree, PlanTree}
use Rattle.gcx_model.specs.Cores.{Good}
use Rattle.gcx_model.specs.Placed.{Placed}
use Rattle.gcx_model.specs.Roles.{cond_rows}
use Rattle.gcx_model.specs.Truth.{Env}
use Rattle.gcx_model.specs.Held.{gives, held}
use Rattle.gcx_model.specs.Points.{so_far, CoreState, Frame, Rest, LoopRound, PointAt, Bound_in}
use Rattle.pass_laws.specs.Idle.{FreeIn}

-- a loop of the body takes its step from the variable, or a condition of it asks about it
abbrev mutual
  pub UsesInItem : ℕ → ItemTree → Type 0
  UsesInItem z (Write b) = ⊥
  UsesInItem z (Copy x) = ⊥
  UsesInItem z (For x y s d) = (y ≡ z) ⊎ UsesIn z d
  UsesInItem z (If c a b) = (r : RoleRowTree) × In r (cond_rows c) × (r.var ≡ z)
  UsesInItem z (SignOff o) = ⊥

  pub UsesIn : ℕ → BodyTree → Type 0
  UsesIn z Nil = ⊥
  UsesIn z (Then i d) = UsesInItem z i ⊎ UsesIn z d

-- a condition of the body has this row
abbrev mutual
  pub AsksInItem : RoleRowTree → ItemTree → Type 0
  AsksInItem r (Write b) = ⊥
  AsksInItem r (Copy x) = ⊥
  AsksInItem r (For x y s d) = AsksIn r d
  AsksInItem r (If c a b) = In r (cond_rows c)
  AsksInItem r (SignOff o) = ⊥

  pub AsksIn : RoleRowTree → BodyTree → Type 0
  AsksIn r Nil = ⊥
  AsksIn r (Then i d) = AsksInItem r i ⊎ AsksIn r d

-- no statement stands in the body
abbrev mutual
  pub HasNoOffItem : ItemTree → Type 0
  HasNoOffItem (Write b) = Unit {0}
  HasNoOffItem (Copy x) = Unit {0}
  HasNoOffItem (For x y s d) = HasNoOff d
  HasNoOffItem (If c a b) = Unit {0}
  HasNoOffItem (SignOff o) = ⊥

  pub HasNoOff : BodyTree → Type 0
  HasNoOff Nil = Unit {0}
  HasNoOff (Then i d) = HasNoOffItem i × HasNoOff d

-- the frame is a round of this loop, or what is left of a body that begins with it
abbrev pub IsOfLoop : (x y : ℕ) → Step → BodyTree → Env → Frame → Type 0
IsOfLoop x y s e env f =
    ((n : Node) × (f ≡ LoopRound x y s e env n)) ⊎ ((d : BodyTree) × (f ≡ Rest (Then (For x y s e) d) env))

-- In a core state of a placed plan this loop stands at a round or comes next, in a frame above these.
pub record AtLoop (plan : PlanTree) (P : Tree) (k x y : ℕ) (s : Step) (e : BodyTree) (env : Env) (below : List Frame)
    : Type 0 where
  pub core : BodyTree
  pub good : Good core
  pub placed : Placed core plan
  pub state : CoreState plan P k
  pub top : List Frame
  pub frame : Frame
  pub is_loop : IsOfLoop x y s e env frame
  pub point : PointAt plan P k (top ++ frame ∷ below)

-- the node is held behind k actions
abbrev pub IsHeld : PlanTree → Tree → ℕ → Node → Type 0
IsHeld plan P k m = In m (held plan P (so_far plan P k))

-- Each variable that the body uses and that has a smaller number than the loop's is bound below, to a node that is
-- held.
abbrev pub TurnUses : Type 0
TurnUses = (plan : PlanTree) (P : Tree) (k x y : ℕ) (s : Step) (e : BodyTree) (env : Env) (below : List Frame)
    → AtLoop plan P k x y s e env below
    → (z : ℕ) → UsesIn z e → z < x → Bound_in z (env z) below × IsHeld plan P k (env z)

-- A variable that is free in the body is the loop's, or has a smaller number.
abbrev pub TurnFree : Type 0
TurnFree = (plan : PlanTree) (P : Tree) (k x y : ℕ) (s : Step) (e : BodyTree) (env : Env) (below : List Frame)
    → AtLoop plan P k x y s e env below
    → (z : ℕ) → FreeIn z e → (z ≡ x) ⊎ (z < x)

-- Where no statement stands in the body, each match of the loop is held, and so is that to which it gives a role of a
-- condition in the body,
abbrev pub TurnHeld : Type 0
TurnHeld = (plan : PlanTree) (P : Tree) (k x y : ℕ) (s : Step) (e : BodyTree) (env : Env) (below : List Frame)
    → AtLoop plan P k x y s e env below → HasNoOff e
    → (j : Node) → In j (matches P (serial_of (env y)) (s ∷ []))
    → IsHeld plan P k j
    × ((r : RoleRowTree) → AsksIn r e → r.var ≡ x
    → (m : Node) → In m P.nodes → gives P (serial_of j) [] r.tail r.kind m ≡ true → IsHeld plan P k m)

-- and that to which the node of a variable with a smaller number gives one.
abbrev pub OtherHeld : Type 0
OtherHeld = (plan : PlanTree) (P : Tree) (k x y : ℕ) (s : Step) (e : BodyTree) (env : Env) (below : List Frame)
    → AtLoop plan P k x y s e env below
    → (r : RoleRowTree) → AsksIn r e → r.var < x
    → (m : Node) → In m P.nodes → gives P (serial_of (env r.var)) [] r.tail r.kind m ≡ true → IsHeld plan P k m
