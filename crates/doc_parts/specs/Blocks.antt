-- These definitions follow the code; no public clause speaks of them.
-- What one look at a block of bytes tells (this project's).
use Rattle.std.specs.Prelude.{ℕ, ◌≡◌, ◌+◌, ◌<◌, ◌≤◌, Bool, true, ◌==◌, if◌then◌else◌, List, slice_index}
use Rattle.std.specs.Int.{w64, trailing_zeros}

-- the place of the lowest bit that is set, or n
abbrev pub first_set : ℕ → ℕ → ℕ
first_set mask n = if mask == 0 then n else trailing_zeros w64 mask

-- the first run bytes of the n from at pass the test
pub record PassesBlock (test : ℕ → Bool) (bytes : List ℕ) (at n run : ℕ) : Type 0 where
  pub within : run ≤ n
  pub pass : (k : ℕ) → at ≤ k → k < at + run → test (slice_index bytes k) ≡ true
