-- These definitions follow the code; no public clause speaks of them.
-- Bytes that are written as they are (this project's).
use Rattle.std.specs.Prelude.{ℕ, Bool, not, ◌&&◌, ◌==◌}

-- none of the three characters that are escaped
abbrev pub is_plain : ℕ → Bool
is_plain b = not (b == 38) && (not (b == 60) && not (b == 62))
