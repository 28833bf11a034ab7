-- The characters of a stream of bytes: Chars (XML 1.0, fifth edition, section 2.2) in UTF-8 (Unicode, section 3.9).
use Rattle.std.specs.Prelude.{◌≡◌, ◌<◌, ℕ, true, false, List, [], ◌∷◌, ◌++◌, length, Option, Some, None, Result, Ok, Err, slice_range}
use Rattle.std.specs.List.{list_all}
use Rattle.std.specs.Char.{IsScalar, encode_utf8}
use Rattle.std.specs.Str.{encode_utf8_all, chars}
use Rattle.gcx_base.specs.Characters.{is_char}
pub use Rattle.gcx_base.specs.Utf8.{IsCharFront, IsNotUtf8}
use Rattle.doc_chars.specs.declared.chars.CharFault.{CharFault}
use Rattle.doc_chars.specs.declared.chars.CharFault.TheVariants.{Utf8, Char}
use Rattle.doc_chars.specs.declared.chars.Split.{Split}

-- the bytes are those of Chars
pub record AreChars (bs : List ℕ) : Type 0 where
  pub cs : List ℕ
  pub chars : list_all is_char cs ≡ true
  pub bytes : encode_utf8_all cs ≡ bs

-- a character begins the bytes that is no Char
pub record IsNotChar (bs : List ℕ) : Type 0 where
  pub c : ℕ
  pub rest : List ℕ
  pub scalar : IsScalar c
  pub bytes : bs ≡ encode_utf8 c ++ rest
  pub other : is_char c ≡ false

-- the bytes are those of these Chars, and behind them a proper front of one character
pub record Decodes (b cs tail : List ℕ) : Type 0 where
  pub chars : list_all is_char cs ≡ true
  pub bytes : b ≡ encode_utf8_all cs ++ tail
  pub front : IsCharFront tail

-- the fault says why, and at which byte
abbrev pub IsFaultAt : CharFault → ℕ → List ℕ → Type 0
IsFaultAt (Utf8 place) at rest = (place ≡ at) × IsNotUtf8 rest
IsFaultAt (Char place) at rest = (place ≡ at) × IsNotChar rest

-- the bytes are those of these Chars, and behind them stands the first fault
pub record Breaks (b cs : List ℕ) (fault : CharFault) : Type 0 where
  pub rest : List ℕ
  pub chars : list_all is_char cs ≡ true
  pub bytes : b ≡ encode_utf8_all cs ++ rest
  pub why : IsFaultAt fault (length (encode_utf8_all cs)) rest

-- what is kept of a stream's bytes: those behind its characters, and how many there were in all
pub record Carry : Type 0 where
  pub bytes : List ℕ
  pub seen : ℕ

-- what is kept is that of the bytes b, which are these Chars and the bytes carried
pub record StandsFor (carry : Carry) (b cs : List ℕ) : Type 0 where
  pub decodes : Decodes b cs carry.bytes
  pub seen : carry.seen ≡ length b

-- without a fault the value stands for the bytes; with one they break there
abbrev pub GoesOn : Option CharFault → Carry → List ℕ → List ℕ → Type 0
GoesOn None carry b cs = StandsFor carry b cs
GoesOn (Some fault) carry b cs = Breaks b cs fault

-- the one character, if it is there
abbrev pub optional : Option ℕ → List ℕ
optional None = []
optional (Some c) = c ∷ []

-- the characters that a split gives: the one that was carried, then those of the piece from `used` to `whole`
abbrev pub given : Split → List ℕ → List ℕ
given split piece = optional split.first ++ chars (slice_range piece split.used split.whole)

-- the carried bytes that aren't given yet: none once their character is
abbrev pub still_carried : Option ℕ → List ℕ → List ℕ
still_carried None bytes = bytes
still_carried (Some c) bytes = []

-- the bytes b are those of these Chars where they end well, and else the fault is behind these
abbrev pub EndsAs : Result Unit CharFault → List ℕ → List ℕ → Type 0
EndsAs (Ok _) b cs = b ≡ encode_utf8_all cs
EndsAs (Err (Utf8 place)) b cs = (place ≡ length (encode_utf8_all cs)) × (place < length b)
EndsAs (Err (Char place)) b cs = ⊥
