-- What holds of the fields of `PathStates` (this project's).
use Rattle.std.specs.Prelude.{◌+◌, ◌<◌, ◌≤◌, ℕ, nat_le, List, [], ◌∷◌, ◌++◌, length}
use Rattle.std.specs.List.{filter}
use Rattle.gcx_model.specs.Members.{In}
use Rattle.path_states.specs.Moves.{AreKnown}
use Rattle.path_states.specs.State.{StateView}
use Rattle.path_states.specs.States.{StatesView, ForgetInOrder, states_at}
use Rattle.path_states.specs.declared.paths.PathTree.{PathTree}
use Rattle.path_states.specs.declared.remembered.Bound.{Bound}
use Rattle.path_states.specs.declared.states.PathStates.TheInside.{Inside}

-- the numbers of the states of the open nodes, that of the document node first
abbrev pub open_numbers : Inside → List ℕ
open_numbers s = s.outer.items ++ s.here ∷ []

abbrev pub seen_with : PathTree → List (List ℕ) → List StateView → Bound → StatesView
seen_with tree names states bound = record { tree = tree; names = names; states = states; most_states = bound.states; most_bytes = bound.bytes }

abbrev pub seen_states : Inside → StatesView
seen_states s = seen_with s.tree s.steps.names.items (states_at s.known.states.items (open_numbers s)) s.known.bound

-- those of the numbers that aren't below the number of kept states
abbrev pub unkept : (kept : ℕ) → List ℕ → List ℕ
unkept kept numbers = filter (λ n. nat_le kept n) numbers

-- All states are right, and those of the open nodes are there, in the order in which they are forgotten. Each one is kept, or is that of an open node.
pub record AreOpen (s : Inside) : Type 0 where
  pub known : AreKnown s.tree.states.items s.steps s.known
  pub there : (n : ℕ) → In n (open_numbers s) → n < length s.known.states.items
  pub order : ForgetInOrder s.known.kept (open_numbers s)
  pub few : length s.known.states.items ≤ s.known.kept + length (unkept s.known.kept (open_numbers s))
