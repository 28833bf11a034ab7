-- Remembered states and moves (this project's). This follows the code: private functions and the model of `PathStates` alone speak of it.
use Rattle.std.specs.Prelude.{◌≡◌, ◌<◌, ◌≤◌, ◌⊎◌, ◌*◌, ℕ, Bool, true, List, [], ◌++◌, length, take, Option, Some, slice_get}
use Rattle.gcx_base.specs.declared.kind.Kind.{Kind}
use Rattle.gcx_model.specs.Members.{In}
use Rattle.path_states.specs.Branches.{IsStepIndex}
use Rattle.path_states.specs.Names.{IsNameNumber}
use Rattle.path_states.specs.Room.{HasRoomLeft}
use Rattle.path_states.specs.State.{StateView, HaveSameParts, IsMade, MovesBelow}
use Rattle.path_states.specs.declared.branches.StepIndex.{StepIndex}
use Rattle.path_states.specs.declared.moves.Move.{Move}
use Rattle.path_states.specs.declared.moves.Moves.{Moves}
use Rattle.path_states.specs.declared.paths.PathState.{PathState}
use Rattle.path_states.specs.declared.remembered.Remembered.{Remembered}

-- no slot has a move
abbrev pub HasNone : List (Option Move) → Type 0
HasNone slots = (m : Move) → In (Some m) slots → ⊥

-- the move from the state by the number to that one is remembered
pub record Remembers (moves : Moves) (from number to : ℕ) : Type 0 where
  pub move : Move
  pub among : In (Some move) moves.slots.items
  pub starts : move.from ≡ from
  pub by : move.number ≡ number
  pub ends : move.to ≡ to

-- the moves now are some of those before, and maybe this one
abbrev pub AddsAtMost : (before now : List (Option Move)) → Move → Type 0
AddsAtMost before now one = (m : Move) → In (Some m) now → In (Some m) before ⊎ (one ≡ m)

-- there are as many slots, or twice as many where there may be
abbrev pub GrowsIf : Bool → (before now : ℕ) → Type 0
GrowsIf may_grow before now = (now ≡ before) ⊎ ((may_grow ≡ true) × (now ≡ 2 * before))

-- the same by the move's numbers
abbrev pub AddsMove : (before now : Moves) → (from number to : ℕ) → Type 0
AddsMove before now from number to = (m : Move) → In (Some m) now.slots.items → In (Some m) before.slots.items ⊎ ((m.from ≡ from) × ((m.number ≡ number) × (m.to ≡ to)))

-- the state of this number has these parts
pub record HasParts (states : List StateView) (at : ℕ) (s : StateView) : Type 0 where
  pub known : StateView
  pub is : slice_get states at ≡ Some known
  pub same : HaveSameParts known s

-- from the state of the number `from` the number of a name leads to this one
abbrev pub IsStep : List PathState → (names : List (List ℕ)) → List StateView → (from number : ℕ) → StateView → Type 0
IsStep tree names states from number s = (above : StateView) (kind : Kind) → slice_get states from ≡ Some above → IsNameNumber names kind number → MovesBelow tree above kind s

-- a remembered move leads from a kept state to the kept one that is made for it
pub record IsMove (tree : List PathState) (names : List (List ℕ)) (known : Remembered) (m : Move) : Type 0 where
  pub starts : m.from < known.kept
  pub ends : m.to < known.kept
  pub leads : (s : StateView) → slice_get known.states.items m.to ≡ Some s → IsStep tree names known.states.items m.from m.number s

-- Each state is the one that its parts make, each remembered move leads to the state made for it, and there is room for those that are kept.
pub record AreRight (tree : List PathState) (names : List (List ℕ)) (known : Remembered) : Type 0 where
  pub kept : known.kept ≤ length known.states.items
  pub room : HasRoomLeft known
  pub made : (n : ℕ) (s : StateView) → slice_get known.states.items n ≡ Some s → IsMade tree s
  pub moves : (m : Move) → In (Some m) known.moves.slots.items → IsMove tree names known m

-- the same by the names of the tree's index
pub record AreKnown (tree : List PathState) (steps : StepIndex) (known : Remembered) : Type 0 where
  pub right : AreRight tree steps.names.items known
  pub index : IsStepIndex tree steps

-- the state may be added as one to which the number leads from the state `from`
pub record MayAdd (tree : List PathState) (names : List (List ℕ)) (known : Remembered) (from number : ℕ) (s : StateView) : Type 0 where
  pub right : AreRight tree names known
  pub there : from < length known.states.items
  pub made : IsMade tree s
  pub step : IsStep tree names known.states.items from number s

-- the states and moves are the same
pub record AreSame (before now : Remembered) : Type 0 where
  pub states : now.states.items ≡ before.states.items
  pub kept : now.kept ≡ before.kept
  pub moves : now.moves ≡ before.moves
  pub bytes : now.bytes ≡ before.bytes
  pub bound : now.bound ≡ before.bound

-- The number leads from the state `from` to this one: a kept one, or a new one at the end. No other state is new, and as many are kept as before, or all.
pub record LeadsOn (tree : List PathState) (names : List (List ℕ)) (before now : Remembered) (from number to : ℕ) : Type 0 where
  pub more : List StateView
  pub states : now.states.items ≡ before.states.items ++ more
  pub one : (more ≡ []) ⊎ ((length more ≡ 1) × (to ≡ length before.states.items))
  pub kept : before.kept ≤ now.kept
  pub all : (now.kept ≡ before.kept) ⊎ (length now.states.items ≤ now.kept)
  pub bound : now.bound ≡ before.bound
  pub right : AreRight tree names now
  pub there : to < length now.states.items
  pub place : (to < now.kept) ⊎ (to ≡ length before.states.items)
  pub leads : (s : StateView) → slice_get now.states.items to ≡ Some s → IsStep tree names before.states.items from number s

-- the state of this number and those behind it are gone, unless it is kept
abbrev pub Forgets : (before now : Remembered) → ℕ → Type 0
Forgets before now n = ((n < before.kept) × (now.states.items ≡ before.states.items)) ⊎ ((before.kept ≤ n) × (now.states.items ≡ take n before.states.items))
