-- The paths of a plan as one tree: what its path states tell (this project's, after the projection trees of ICDE 2007).
use Rattle.std.specs.Prelude.{◌≡◌, ◌<◌, ◌↔◌, ℕ, false, List, [], ◌∷◌, ◌++◌, length, Some, slice_get}
use Rattle.gcx_base.specs.declared.steps.Axis.{Axis}
use Rattle.gcx_base.specs.declared.steps.Axis.TheVariants.{Child, Descendant}
use Rattle.gcx_base.specs.declared.steps.Step.{Step}
use Rattle.gcx_model.specs.Core.{RoleTarget, Own, First, Whole, RoleRowTree, PlanTree}
use Rattle.gcx_model.specs.ItemView.{role_kind}
use Rattle.gcx_model.specs.Held.{path_of}
use Rattle.gcx_base.specs.Tests.{passes}
use Rattle.gcx_base.specs.declared.kind.Kind.TheVariants.{Text}
use Rattle.gcx_model.specs.Members.{In}
use Rattle.gcx_model.specs.Placed.{row_at}
use Rattle.path_states.specs.declared.paths.PathState.{PathState}
use Rattle.path_states.specs.declared.paths.Way.{Way}
use Rattle.path_states.specs.declared.paths.PathTree.{PathTree}

-- below the path state p stands the path state c, by a step of this axis
pub record IsBelow (tree : List PathState) (axis : Axis) (p c : ℕ) : Type 0 where
  pub state : PathState
  pub at : slice_get tree c ≡ Some state
  pub behind : 0 < c
  pub parent : state.parent ≡ p
  pub same : state.step.axis ≡ axis

-- the role r of this kind ends at the path state p
pub record IsEnd (ways : List Way) (kind : RoleTarget) (p r : ℕ) : Type 0 where
  pub way : Way
  pub at : slice_get ways r ≡ Some way
  pub end : way.end ≡ p
  pub same : role_kind way.kind ≡ kind

-- matches of the path of the path state p are the contexts of the role r, which is given to first matches
pub record IsContext (ways : List Way) (p r : ℕ) : Type 0 where
  pub way : Way
  pub at : slice_get ways r ≡ Some way
  pub var : way.var ≡ p
  pub same : role_kind way.kind ≡ First

-- what the path state p tells of those below it and of the roles
pub record IsLinked (tree : List PathState) (ways : List Way) (p : ℕ) (s : PathState) : Type 0 where
  pub child_edges : (c : ℕ) → In c s.child_edges.items ↔ IsBelow tree Child p c
  pub descendant_edges : (c : ℕ) → In c s.descendant_edges.items ↔ IsBelow tree Descendant p c
  pub own : (r : ℕ) → In r s.own.items ↔ IsEnd ways Own p r
  pub whole : (r : ℕ) → In r s.whole.items ↔ IsEnd ways Whole p r
  pub first : (r : ℕ) → In r s.first.items ↔ IsEnd ways First p r
  pub context : (r : ℕ) → In r s.context.items ↔ IsContext ways p r

-- The first match of an empty tail is the context itself: it is given as Own is.
abbrev pub kind_with : RoleTarget → (tail : List Step) → RoleTarget
kind_with Own tail = Own
kind_with First [] = Own
kind_with First (s ∷ tail) = First
kind_with Whole tail = Whole

-- an own role has no tail
abbrev pub tail_with : RoleTarget → (tail : List Step) → List Step
tail_with Own tail = []
tail_with First tail = tail
tail_with Whole tail = tail

-- the way of a role with this row: to the path of its variable, and on by its tail
pub record IsWay (plan : PlanTree) (path : ℕ → List Step) (count : ℕ) (w : Way) (row : RoleRowTree) : Type 0 where
  pub kind : role_kind w.kind ≡ kind_with row.kind row.tail
  pub var : path w.var ≡ path_of plan row.var
  pub var_known : w.var < count
  pub end : path w.end ≡ path_of plan row.var ++ tail_with row.kind row.tail
  pub end_known : w.end < count
  pub steps : w.steps ≡ length (tail_with row.kind row.tail)

-- The path states are the path tree of the plan: each has a path, that of path state 0 is empty, and another's is that of the one above and its own step.
pub record IsPathTree (plan : PlanTree) (t : PathTree) : Type 0 where
  pub path : ℕ → List Step
  pub top : path 0 ≡ []
  pub some : 0 < length t.states.items
  pub step : (c : ℕ) (s : PathState) → slice_get t.states.items c ≡ Some s → 0 < c → (s.parent < c) × (path c ≡ path s.parent ++ s.step ∷ [])
  pub linked : (p : ℕ) (s : PathState) → slice_get t.states.items p ≡ Some s → IsLinked t.states.items t.ways.items p s
  pub ways : (r : ℕ) (row : RoleRowTree) → row_at plan.roles r ≡ Some row → (w : Way) × (slice_get t.ways.items r ≡ Some w) × IsWay plan path (length t.states.items) w row
  pub roles : length t.ways.items ≡ length plan.roles
  pub texts : t.texts ≡ false → (c : ℕ) (s : PathState) (b : List ℕ) → slice_get t.states.items c ≡ Some s → 0 < c → passes s.step.test (Text b) ≡ false
