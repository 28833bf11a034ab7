-- These definitions follow the code; no public clause speaks of them.
-- What the front of bytes is.
use Rattle.std.specs.Prelude.{◌≡◌, ◌<◌, ◌≤◌, ℕ, true, false, List, ◌++◌, length, take, drop, Option, Some, None}
use Rattle.std.specs.Char.{IsScalar, encode_utf8}
use Rattle.std.specs.List.{list_all}
use Rattle.std.specs.Str.{encode_utf8_all}
use Rattle.gcx_base.specs.Characters.{is_char}
use Rattle.doc_chars.specs.declared.scan.Cause.{Cause}
use Rattle.doc_chars.specs.declared.scan.Cause.TheVariants.{NotUtf8, NotChar}
use Rattle.doc_chars.specs.declared.scan.First.{First}
use Rattle.doc_chars.specs.declared.scan.First.TheVariants.{Whole, Bad, Front}
use Rattle.doc_chars.specs.Stream.{IsCharFront, IsNotUtf8, IsNotChar}
pub use Rattle.doc_chars.specs.Stream.{AreChars}

-- why characters end before these bytes
abbrev pub Ends : Option Cause → List ℕ → Type 0
Ends None rest = IsCharFront rest
Ends (Some NotUtf8) rest = IsNotUtf8 rest
Ends (Some NotChar) rest = IsNotChar rest

-- the first `whole` bytes are those of Chars, which end there by the cause
pub record Scanned (bs : List ℕ) (whole : ℕ) (cause : Option Cause) : Type 0 where
  pub within : whole ≤ length bs
  pub chars : AreChars (take whole bs)
  pub ends : Ends cause (drop whole bs)

-- the place of the first character that isn't a Char
abbrev pub IsOther : List ℕ → ℕ → Type 0
IsOther text at = (at < length text) × AreChars (take at text)
    × ((c : ℕ) × (after : List ℕ) × (drop at text ≡ encode_utf8 c ++ after) × IsScalar c × (is_char c ≡ false))

-- what the bytes begin with
abbrev pub BeginsWith : First → List ℕ → Type 0
BeginsWith (Whole c) bs = (rest : List ℕ) × (bs ≡ encode_utf8 c ++ rest) × IsScalar c
BeginsWith Bad bs = IsNotUtf8 bs
BeginsWith Front bs = IsCharFront bs
