-- These definitions follow the code; no public clause speaks of them.
-- Where characters that aren't Chars begin in the bytes of a text.
use Rattle.std.specs.Prelude.{◌≡◌, ◌≤◌, ◌<◌, ◌+◌, ◌-◌, ◌==◌, ℕ, Bool, true, false, not, ◌&&◌, ◌||◌, nat_le, List, length, slice_index, if◌then◌else◌}

-- a byte with which no such character begins
abbrev pub is_plain_byte : ℕ → Bool
is_plain_byte b = (nat_le 32 b || ((b == 9) || ((b == 10) || (b == 13)))) && not (b == 239)

-- the bytes of #xFFFE and #xFFFF stand at this place
abbrev pub is_last_at : List ℕ → ℕ → Bool
is_last_at bytes at = nat_le 3 (length bytes - at) && ((slice_index bytes (at + 1) == 191) && nat_le 190 (slice_index bytes (at + 2)))

-- such a character begins at this place
abbrev pub is_other_at : List ℕ → ℕ → Bool
is_other_at bytes at = if slice_index bytes at == 239 then is_last_at bytes at else not (is_plain_byte (slice_index bytes at))

-- none begins at any of these places
abbrev pub HasNoOther : ℕ → ℕ → List ℕ → Type 0
HasNoOther from to bytes = (i : ℕ) → from ≤ i → i < to → is_other_at bytes i ≡ false

-- the first of these places where one begins
pub record IsFirstOther (from to at : ℕ) (bytes : List ℕ) : Type 0 where
  pub low : from ≤ at
  pub high : at < to
  pub before : HasNoOther from at bytes
  pub found : is_other_at bytes at ≡ true
