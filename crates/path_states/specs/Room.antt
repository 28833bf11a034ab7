-- How much is remembered (this project's).
use Rattle.std.specs.Prelude.{◌≡◌, ◌<◌, ◌≤◌, ◌+◌, ◌*◌, ◌^◌, ◌⊎◌, max, ℕ, List, drop, length, take}
use Rattle.std.specs.List.{sum_by}
use Rattle.path_states.specs.State.{StateView}
use Rattle.path_states.specs.declared.remembered.Remembered.{Remembered}

-- the bytes that a state is counted with: the roles kept are among those given, so these count twice
abbrev pub state_bytes : StateView → ℕ
state_bytes s = 256 + 4 * (length s.active + length s.pending + length s.whole + length s.whole_here + 2 * length s.given + length s.contexts)

-- those of so many slots for moves
abbrev pub slot_bytes : ℕ → ℕ
slot_bytes slots = 16 * slots

-- These states are remembered, that of the document node first, and moves in so many slots. Beside that first state they take no more than so many bytes,
-- or there is no other, and the slots are the first ones.
pub record IsWithinRoom (most_states most_bytes : ℕ) (states : List StateView) (slots : ℕ) : Type 0 where
  pub count : length states ≤ max 1 most_states
  pub bytes : (sum_by state_bytes (drop 1 states) + slot_bytes slots ≤ most_bytes) ⊎ ((length states ≡ 1) × (slots ≤ 64))

-- the same of the kept states, of which there is one at least, and whose bytes are counted
pub record HasRoomLeft (known : Remembered) : Type 0 where
  pub some : 0 < known.kept
  pub count : known.kept ≤ max 1 known.bound.states
  pub counted : sum_by state_bytes (drop 1 (take known.kept known.states.items)) ≤ known.bytes
  pub within : (known.bytes + slot_bytes (length known.moves.slots.items) ≤ known.bound.bytes) ⊎ ((known.kept ≡ 1) × (length known.moves.slots.items ≤ 64))

-- there is room for so many bytes more, and a machine's number counts them
abbrev pub HasRoomForState : Remembered → ℕ → Type 0
HasRoomForState known bytes = (known.bytes + slot_bytes (length known.moves.slots.items) + bytes < known.bound.bytes) × (known.bound.bytes < 2 ^ 64)
