-- What the frame of an open node tells (this project's). Public clauses speak of it inside `Stands` alone.
use Rattle.std.specs.Prelude.{◌≡◌, ◌<◌, ◌↔◌, ℕ, true, List, ◌++◌, length, Option, Some, None}
use Rattle.gcx_base.specs.declared.steps.Step.{Step}
use Rattle.gcx_model.specs.Tree.{Node, serial_of, above, Tree}
use Rattle.gcx_model.specs.Paths.{any, hits, first}
use Rattle.gcx_model.specs.Core.{RoleTarget, First, Whole, RoleRowTree, PlanTree}
use Rattle.gcx_model.specs.Held.{path_of}
use Rattle.gcx_model.specs.Growth.{level}
use Rattle.gcx_model.specs.Members.{In}
use Rattle.gcx_model.specs.Placed.{row_at}
use Rattle.gcx_base.specs.declared.steps.Axis.TheVariants.{Descendant}
use Rattle.path_states.specs.Lists.{Climbs}
use Rattle.path_states.specs.PathTree.{IsBelow, kind_with}
use Rattle.path_states.specs.declared.paths.PathState.{PathState}
use Rattle.matcher.specs.Parts.{IsUnmatched}
use Rattle.matcher.specs.View.{FrameView}
use Rattle.matcher.specs.declared.frames.Found.{Found}

-- the role has this row, and is given in this manner
pub record IsRole (plan : PlanTree) (kind : RoleTarget) (r : ℕ) (row : RoleRowTree) : Type 0 where
  pub at : row_at plan.roles r ≡ Some row
  pub same : kind_with row.kind row.tail ≡ kind

-- a descendant step stands behind the path state's path, which leads to the node or to one above it
pub record IsPending (tree : List PathState) (path : ℕ → List Step) (a : Node) (c : ℕ) : Type 0 where
  pub below : ℕ
  pub stands : IsBelow tree Descendant c below
  pub hit : any (hits 0 (path c)) (above a) ≡ true

-- the node is in the subtree of a match of the role's path
pub record IsInside (plan : PlanTree) (a : Node) (r : ℕ) : Type 0 where
  pub row : RoleRowTree
  pub role : IsRole plan Whole r row
  pub hit : any (hits 0 (path_of plan row.var ++ row.tail)) (above a) ≡ true

-- the node is a context of the role, of which this is the first match
pub record IsFirst (plan : PlanTree) (P : Tree) (a : Node) (r : ℕ) (found : Option Node) : Type 0 where
  pub row : RoleRowTree
  pub role : IsRole plan First r row
  pub hit : hits 0 (path_of plan row.var) a ≡ true
  pub is : first P (serial_of a) row.tail ≡ found

-- the node is the first match of the role for the context of this level
pub record IsFound (plan : PlanTree) (P : Tree) (a : Node) (f : Found) : Type 0 where
  pub context : Node
  pub over : In context (above a)
  pub at : level context ≡ f.level
  pub is : IsFirst plan P context f.role (Some a)

-- the frame of the node a
pub record IsFrame (plan : PlanTree) (P : Tree) (tree : List PathState) (path : ℕ → List Step) (frame : FrameView) (a : Node) : Type 0 where
  pub active : (c : ℕ) → In c frame.active ↔ ((c < length tree) × (hits 0 (path c) a ≡ true))
  pub pending : (c : ℕ) → In c frame.pending ↔ IsPending tree path a c
  pub whole : (r : ℕ) → In r frame.whole ↔ IsInside plan a r
  pub climbs : Climbs frame.whole
  pub unfound : (r : ℕ) → IsUnmatched frame.contexts r ↔ IsFirst plan P a r None
  pub found : (f : Found) → In f frame.found ↔ IsFound plan P a f
