-- This follows the code, for its proofs: no public clause speaks of it.
-- What is read of a string, part by part.
use Rattle.std.specs.Prelude.{◌≡◌, ◌≢◌, ◌≤◌, ◌<◌, ℕ, List, ◌++◌, length, take, drop}
use Rattle.std.specs.Str.{encode_utf8_all}
use Rattle.doc_chars.specs.Reference.{Refers}
use Rattle.xq_lex.specs.Strings.{Part, part_chars, IsPart, part_value, parts_chars, AreParts, parts_value, HasString}

-- the text begins with a reference of so many characters, or with none
pub record HasReference (text : List ℕ) (c count : ℕ) : Type 0 where
  pub refers : Refers (take count text) c
  pub within : count ≤ length text

abbrev pub BeginsWithNoReference : List ℕ → Type 0
BeginsWithNoReference text = (front rest : List ℕ) (c : ℕ) → Refers front c → text ≢ front ++ rest

-- the text begins with a part of so many characters, which stands for this one
pub record HasPart (quote : ℕ) (text : List ℕ) (value count : ℕ) : Type 0 where
  pub part : Part
  pub good : IsPart quote part
  pub chars : text ≡ part_chars quote part (drop count text)
  pub value_is : part_value quote part ≡ value
  pub some : 0 < count
  pub within : count ≤ length text

-- so many characters are parts of this value
pub record ReadsValue (quote : ℕ) (text bytes : List ℕ) (count : ℕ) : Type 0 where
  pub parts : List Part
  pub good : AreParts quote parts
  pub chars : text ≡ parts_chars quote parts (drop count text)
  pub value : bytes ≡ encode_utf8_all (parts_value quote parts)
  pub within : count ≤ length text

-- behind the delimiter a string of this value has so many characters, or there is none
pub record HasValue (quote : ℕ) (text bytes : List ℕ) (count : ℕ) : Type 0 where
  pub parts : List Part
  pub string : HasString quote text parts (drop count text)
  pub value : bytes ≡ encode_utf8_all (parts_value quote parts)
  pub within : count ≤ length text

abbrev pub BeginsWithNoString : (quote : ℕ) → List ℕ → Type 0
BeginsWithNoString quote text = (parts : List Part) (rest : List ℕ) → HasString quote text parts rest → ⊥
