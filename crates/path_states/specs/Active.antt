-- Which path states are active at a node below another one (this project's; in words of automata: the subset construction).
use Rattle.std.specs.Prelude.{◌≡◌, ◌⊎◌, ℕ, true, List, [], Some, slice_get}
use Rattle.gcx_base.specs.declared.kind.Kind.{Kind}
use Rattle.gcx_base.specs.Tests.{passes}
use Rattle.gcx_model.specs.Members.{In}
use Rattle.path_states.specs.Lists.{From, Gains, Holds}
use Rattle.path_states.specs.Branches.{AreSorted, IsStepIndex}
use Rattle.path_states.specs.Names.{IsNameNumber}
use Rattle.path_states.specs.declared.branches.Branch.{Branch}
use Rattle.path_states.specs.declared.branches.StepIndex.{StepIndex}
use Rattle.path_states.specs.declared.paths.PathState.{PathState}

-- the edges by a child step, and by a descendant step
abbrev pub child_edges_of : PathState → List ℕ
child_edges_of s = s.child_edges.items

abbrev pub descendant_edges_of : PathState → List ℕ
descendant_edges_of s = s.descendant_edges.items

-- the path state p tells of y in this list of it
pub record Tells (list : PathState → List ℕ) (tree : List PathState) (p y : ℕ) : Type 0 where
  pub state : PathState
  pub at : slice_get tree p ≡ Some state
  pub member : In y (list state)

-- the path state p is c, and has path states below it by a descendant step
pub record Waits (tree : List PathState) (p c : ℕ) : Type 0 where
  pub state : PathState
  pub at : slice_get tree p ≡ Some state
  pub some : (state.descendant_edges.items ≡ []) → ⊥
  pub same : p ≡ c

-- the path state p is c, and its test passes the node
pub record Passes (tree : List PathState) (kind : Kind) (p c : ℕ) : Type 0 where
  pub state : PathState
  pub at : slice_get tree p ≡ Some state
  pub is : passes state.step.test kind ≡ true
  pub same : p ≡ c

-- the same of the path state to which the branch leads
abbrev pub PassesTo : List PathState → Kind → Branch → ℕ → Type 0
PassesTo tree kind b c = Passes tree kind b.state c

-- the path state c stands in this list of the path state p, and its test passes the node
pub record Under (list : PathState → List ℕ) (tree : List PathState) (kind : Kind) (p c : ℕ) : Type 0 where
  pub state : PathState
  pub at : slice_get tree p ≡ Some state
  pub from : From (list state) (Passes tree kind) c

-- The paths that lead to a new node of this kind: those below the ones that lead to its parent by a child step, and below the pending ones by a descendant step.
abbrev pub ActiveBelow : List PathState → (above pending : List ℕ) → Kind → ℕ → Type 0
ActiveBelow tree above pending kind c = From above (Under child_edges_of tree kind) c ⊎ From pending (Under descendant_edges_of tree kind) c

-- for each kind whose name has the number, the members now are those before and those of Q
abbrev pub GainsBy : List PathState → StepIndex → (name : ℕ) → (before now : List ℕ) → (Kind → ℕ → Type 0) → Type 0
GainsBy tree steps name before now Q = IsStepIndex tree steps → (kind : Kind) → IsNameNumber steps.names.items kind name → Gains before now (Q kind)

-- the members now are those before, and those to which the sorted branches lead and whose tests pass the node
abbrev pub GainsPassing : List PathState → StepIndex → (name : ℕ) → (before now : List ℕ) → List Branch → Type 0
GainsPassing tree steps name before now branches = (numbers : List ℕ) → AreSorted tree steps.names.items numbers branches
    → GainsBy tree steps name before now (λ kind. From numbers (Passes tree kind))

-- the members are those of Q
abbrev pub HoldsBy : List PathState → StepIndex → (name : ℕ) → List ℕ → (Kind → ℕ → Type 0) → Type 0
HoldsBy tree steps name now Q = IsStepIndex tree steps → (kind : Kind) → IsNameNumber steps.names.items kind name → Holds now (Q kind)
