-- The numbers of names (this project's).
use Rattle.std.specs.Prelude.{◌≡◌, ◌⊎◌, ℕ, suc, Bool, List, [], ◌∷◌, ◌++◌, length, Some, slice_get}
use Rattle.std.specs.List.Sorted.{IsSortedBy}
use Rattle.std.specs.Ordering.{is_lt, nat_cmp}
use Rattle.std.specs.Cmp.Lexicographic.{slice_cmp}
use Rattle.gcx_base.specs.declared.kind.Kind.{Kind}
use Rattle.gcx_base.specs.declared.kind.Kind.TheVariants.{Document, Element, Text}
use Rattle.gcx_base.specs.declared.steps.Test.{Test}
use Rattle.gcx_base.specs.declared.steps.Test.TheVariants.{Named}
use Rattle.gcx_model.specs.Members.{In}
use Rattle.path_states.specs.declared.paths.PathState.{PathState}

-- The number of a node's name: its place among the names, their count for every other name, and one more for texts.
abbrev pub IsNameNumber : (names : List (List ℕ)) → Kind → ℕ → Type 0
IsNameNumber names Document k = ⊥
IsNameNumber names (Element name) k = (slice_get names k ≡ Some name) ⊎ ((k ≡ length names) × (In name names → ⊥))
IsNameNumber names (Text b) k = k ≡ suc (length names)

-- the path state's test asks for the name
abbrev pub AsksFor : PathState → List ℕ → Type 0
AsksFor s name = s.step.test ≡ Named name

-- a name that the test asks for is among these
abbrev pub KnowsName : List (List ℕ) → Test → Type 0
KnowsName names test = (name : List ℕ) → test ≡ Named name → In name names

-- each name that a step asks for is among these
abbrev pub HasNames : List PathState → List (List ℕ) → Type 0
HasNames tree names = (c : ℕ) (s : PathState) → slice_get tree c ≡ Some s → KnowsName names s.step.test

-- the one name comes before the other
abbrev pub is_before : (one other : List ℕ) → Bool
is_before one other = is_lt (slice_cmp nat_cmp one other)

-- none comes before the one that stands ahead of it
abbrev pub AreOrdered : List (List ℕ) → Type 0
AreOrdered names = IsSortedBy is_before names

-- each name stands at one place
abbrev pub BranchesAreApart : List (List ℕ) → Type 0
BranchesAreApart names = (i j : ℕ) (name : List ℕ) → slice_get names i ≡ Some name → slice_get names j ≡ Some name → i ≡ j

-- the name stands at the end of the names, if it wasn't there already
abbrev pub PutsName : (before now : List (List ℕ)) → List ℕ → Type 0
PutsName before now name = ((now ≡ before ++ name ∷ []) × (In name before → ⊥)) ⊎ ((now ≡ before) × In name before)

-- the same names in order, each once
pub record AreOnce (names once : List (List ℕ)) : Type 0 where
  pub all : (name : List ℕ) → In name names → In name once
  pub of : (name : List ℕ) → In name once → In name names
  pub ordered : AreOrdered once
  pub apart : BranchesAreApart once
