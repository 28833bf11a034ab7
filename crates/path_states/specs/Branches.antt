-- The path states below each path state, by the names that their steps ask for (this project's).
use Rattle.std.specs.Prelude.{◌≡◌, ◌⊎◌, ℕ, List, length, Some, slice_get}
use Rattle.std.specs.List.Sorted.{IsNonDecreasingBy}
use Rattle.gcx_base.specs.declared.kind.Kind.TheVariants.{Element}
use Rattle.gcx_base.specs.declared.steps.Axis.{Axis}
use Rattle.gcx_base.specs.declared.steps.Axis.TheVariants.{Child, Descendant}
use Rattle.gcx_base.specs.declared.steps.Test.{Test}
use Rattle.gcx_base.specs.declared.steps.Test.TheVariants.{Named, AnyElement, AnyText, AnyNode}
use Rattle.gcx_model.specs.Members.{In}
use Rattle.path_states.specs.Names.{BranchesAreApart, AreOrdered, HasNames, IsNameNumber}
use Rattle.path_states.specs.declared.branches.Branch.{Branch}
use Rattle.path_states.specs.declared.branches.Branches.{Branches}
use Rattle.path_states.specs.declared.branches.StepIndex.{StepIndex}
use Rattle.path_states.specs.declared.paths.PathState.{PathState}

-- those below a path state by a step of the axis
abbrev pub steps_by : Axis → PathState → List ℕ
steps_by Child s = s.child_edges.items
steps_by Descendant s = s.descendant_edges.items

abbrev pub branches_by : Axis → Branches → List Branch
branches_by Child bs = bs.child_edges.items
branches_by Descendant bs = bs.descendant_edges.items

-- the number of the name that the test asks for: their count, where it asks for none
abbrev pub IsAskedNumber : List (List ℕ) → Test → ℕ → Type 0
IsAskedNumber names (Named name) k = IsNameNumber names (Element name) k
IsAskedNumber names AnyElement k = k ≡ length names
IsAskedNumber names AnyText k = k ≡ length names
IsAskedNumber names AnyNode k = k ≡ length names

-- the branch leads to the path state of this number
pub record IsBranch (names : List (List ℕ)) (s : PathState) (number : ℕ) (b : Branch) : Type 0 where
  pub leads : b.state ≡ number
  pub asks : IsAskedNumber names s.step.test b.name

-- one of the branches leads there
pub record HasBranch (names : List (List ℕ)) (s : PathState) (number : ℕ) (branches : List Branch) : Type 0 where
  pub branch : Branch
  pub among : In branch branches
  pub is : IsBranch names s number branch

-- the branches now are those before, and one to the path state of this number, where there is one
pub record PutsBranch (tree : List PathState) (names : List (List ℕ)) (number : ℕ) (before now : List Branch) : Type 0 where
  pub stay : (b : Branch) → In b before → In b now
  pub of : (b : Branch) → In b now → In b before ⊎ (b.state ≡ number)
  pub has : (s : PathState) → slice_get tree number ≡ Some s → HasBranch names s number now

-- the branches lead to the path states of these numbers
pub record HaveBranches (tree : List PathState) (names : List (List ℕ)) (numbers : List ℕ) (branches : List Branch) : Type 0 where
  pub of : (b : Branch) → In b branches → In b.state numbers
  pub all : (c : ℕ) (s : PathState) → In c numbers → slice_get tree c ≡ Some s → HasBranch names s c branches

abbrev pub branch_name : Branch → ℕ
branch_name b = b.name

-- none asks for a name before those that stand ahead of it
abbrev pub Rise : List Branch → Type 0
Rise branches = IsNonDecreasingBy branch_name branches

-- the same in the order of the names
pub record AreSorted (tree : List PathState) (names : List (List ℕ)) (numbers : List ℕ) (branches : List Branch) : Type 0 where
  pub rise : Rise branches
  pub have : HaveBranches tree names numbers branches

-- what stands below the path state, by either axis
abbrev pub BranchesAreBelow : List PathState → List (List ℕ) → PathState → Branches → Type 0
BranchesAreBelow tree names s bs = (axis : Axis) → AreSorted tree names (steps_by axis s) (branches_by axis bs)

-- the same of the path state p
pub record HasBelow (tree : List PathState) (names : List (List ℕ)) (s : PathState) (p : ℕ) (all : List Branches) : Type 0 where
  pub branches : Branches
  pub at : slice_get all p ≡ Some branches
  pub are : BranchesAreBelow tree names s branches

-- the same of each of these path states
pub record AreBranches (tree : List PathState) (names : List (List ℕ)) (states : List PathState) (all : List Branches) : Type 0 where
  pub same : length all ≡ length states
  pub each : (p : ℕ) (s : PathState) → slice_get states p ≡ Some s → HasBelow tree names s p all

-- the index is that of the path states: its names are those that they ask for, in order and each once
pub record IsStepIndex (tree : List PathState) (steps : StepIndex) : Type 0 where
  pub named : HasNames tree steps.names.items
  pub ordered : AreOrdered steps.names.items
  pub apart : BranchesAreApart steps.names.items
  pub branches : AreBranches tree steps.names.items tree steps.branches.items
