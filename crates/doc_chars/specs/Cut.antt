-- These definitions follow the code; no public clause speaks of them.
-- A piece behind the bytes of a character that the piece before it cut.
use Rattle.std.specs.Prelude.{◌≡◌, ◌<◌, ◌≤◌, ℕ, true, List, ◌++◌, length, take, drop, MatchOption, slice_range}
use Rattle.std.specs.Char.{encode_utf8}
use Rattle.gcx_base.specs.Characters.{is_char}
use Rattle.doc_chars.specs.declared.cut.Cut.{Cut}
use Rattle.doc_chars.specs.Stream.{still_carried}
use Rattle.doc_chars.specs.Scan.{AreChars, Ends}

-- the carried character is given or still carried, then come the Chars of the piece, and then their end
pub record IsCut (carried piece : List ℕ) (cut : Cut) : Type 0 where
  pub in_order : cut.used ≤ cut.whole
  pub within : cut.whole ≤ length piece
  pub first : MatchOption cut.first ((cut.used ≡ 0) × (0 < length carried → cut.whole ≡ 0))
      (λ c. (0 < length carried) × (encode_utf8 c ≡ carried ++ take cut.used piece) × (is_char c ≡ true))
  pub chars : AreChars (slice_range piece cut.used cut.whole)
  pub ends : Ends cut.cause (still_carried cut.first carried ++ drop cut.whole piece)
