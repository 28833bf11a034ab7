-- The path tree while it grows (this project's). This follows the code: private functions alone speak of it.
use Rattle.std.specs.Prelude.{◌≡◌, ◌<◌, ◌↔◌, ℕ, List, [], ◌∷◌, ◌++◌, length, Some, slice_get, slice_index_or}
use Rattle.gcx_base.specs.declared.steps.Axis.{Axis}
use Rattle.gcx_base.specs.declared.steps.Axis.TheVariants.{Child, Descendant}
use Rattle.gcx_base.specs.declared.steps.Step.{Step}
use Rattle.gcx_model.specs.Core.{RoleTarget, Own, First, Whole, RoleRowTree, PlanTree}
use Rattle.gcx_model.specs.Held.{paths_from}
use Rattle.gcx_model.specs.Members.{In}
use Rattle.gcx_model.specs.Placed.{row_at}
use Rattle.path_states.specs.Lists.{Gains}
use Rattle.path_states.specs.PathTree.{IsBelow, IsEnd, IsContext, IsWay}
use Rattle.path_states.specs.declared.paths.PathState.{PathState}
use Rattle.path_states.specs.declared.paths.Way.{Way}

-- what a path state tells: those below it by an axis, the roles of a kind that end at it, and those whose contexts its matches are
pub data Told : Type 0 where
  Below : Axis → Told
  Ends : RoleTarget → Told
  Contexts : Told

abbrev pub told_by : Told → PathState → List ℕ
told_by (Below Child) s = s.child_edges.items
told_by (Below Descendant) s = s.descendant_edges.items
told_by (Ends Own) s = s.own.items
told_by (Ends First) s = s.first.items
told_by (Ends Whole) s = s.whole.items
told_by Contexts s = s.context.items

-- what the path state p is to tell
abbrev pub IsTold : List PathState → List Way → Told → (p y : ℕ) → Type 0
IsTold tree ways (Below axis) p y = IsBelow tree axis p y
IsTold tree ways (Ends kind) p y = IsEnd ways kind p y
IsTold tree ways Contexts p y = IsContext ways p y

-- a path state that tells nothing
pub record IsFresh (s : PathState) (parent : ℕ) (step : Step) : Type 0 where
  pub parent_is : s.parent ≡ parent
  pub step_is : s.step ≡ step
  pub none : (k : Told) → told_by k s ≡ []

-- the path state tells this too
pub record TellsMore (told : Told) (number : ℕ) (before now : PathState) : Type 0 where
  pub parent : now.parent ≡ before.parent
  pub step : now.step ≡ before.step
  pub gains : (k : Told) → Gains (told_by k before) (told_by k now) (λ y. (told ≡ k) × (number ≡ y))

-- what became of the path state q, where the path state p tells this too
pub record Was (told : Told) (p number : ℕ) (before : List PathState) (q : ℕ) (now : PathState) : Type 0 where
  pub was : PathState
  pub at : slice_get before q ≡ Some was
  pub parent : now.parent ≡ was.parent
  pub step : now.step ≡ was.step
  pub gains : (k : Told) → Gains (told_by k was) (told_by k now) (λ y. (p ≡ q) × (told ≡ k) × (number ≡ y))

-- the path state p tells this too, where there is one
pub record TellMore (told : Told) (p number : ℕ) (before now : List PathState) : Type 0 where
  pub same : length now ≡ length before
  pub each : (q : ℕ) (s : PathState) → slice_get now q ≡ Some s → Was told p number before q s

abbrev pub path_at : List (List Step) → ℕ → List Step
path_at paths c = slice_index_or paths c []

-- The path states so far, with their paths, tell of each other and of the ways so far.
pub record Growing (tree : List PathState) (paths : List (List Step)) (ways : List Way) : Type 0 where
  pub same : length paths ≡ length tree
  pub some : 0 < length tree
  pub top : path_at paths 0 ≡ []
  pub step : (c : ℕ) (s : PathState) → slice_get tree c ≡ Some s → 0 < c → (s.parent < c) × (path_at paths c ≡ path_at paths s.parent ++ s.step ∷ [])
  pub tells : (k : Told) (p : ℕ) (s : PathState) (y : ℕ) → slice_get tree p ≡ Some s → In y (told_by k s) ↔ IsTold tree ways k p y
  pub known : (r : ℕ) (w : Way) → slice_get ways r ≡ Some w → (w.end < length tree) × (w.var < length tree)

-- there are more path states, and the path leads to the path state `end`
pub record Reached (tree : List PathState) (paths : List (List Step)) (ways : List Way) (end : ℕ) (path : List Step) : Type 0 where
  pub more : List (List Step)
  pub growing : Growing tree (paths ++ more) ways
  pub within : end < length tree
  pub is : path_at (paths ++ more) end ≡ path

-- below the path state `parent` there is one more, by this step
abbrev pub GrowsBelow : (before now : List PathState) → (parent : ℕ) → Step → Type 0
GrowsBelow before now parent step = (paths : List (List Step)) (ways : List Way)
    → parent < length before → Growing before paths ways → Growing now (paths ++ (path_at paths parent ++ step ∷ []) ∷ []) ways

-- from the path state `start` these steps lead to the path state `end`
abbrev pub ReachesEnd : (before now : List PathState) → (start end : ℕ) → List Step → Type 0
ReachesEnd before now start end steps = (paths : List (List Step)) (ways : List Way)
    → start < length before → Growing before paths ways → Reached now paths ways end (path_at paths start ++ steps)

-- the way of this role, the next one, is among the ways too
abbrev pub GainsWay : (before now : List PathState) → (role : ℕ) → Way → Type 0
GainsWay before now role way = (paths : List (List Step)) (ways : List Way)
    → length ways ≡ role → way.end < length before → way.var < length before → Growing before paths ways → Growing now paths (ways ++ way ∷ [])

-- there are those of these roles of the plan too, and these are the ways of the roles
pub record Ended (plan : PlanTree) (tree : List PathState) (ways : List Way) (rows : List RoleRowTree) : Type 0 where
  pub more : List (List Step)
  pub growing : Growing tree (paths_from ([] ∷ []) plan.vars ++ more) ways
  pub count : length ways ≡ length rows
  pub each : (r : ℕ) (row : RoleRowTree) → row_at rows r ≡ Some row → (w : Way) × (slice_get ways r ≡ Some w) × IsWay plan (path_at (paths_from ([] ∷ []) plan.vars ++ more)) (length tree) w row
