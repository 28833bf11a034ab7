-- Strings in a query (this project's; references by XML 1.0, section 4.1).
use Rattle.std.specs.Prelude.{◌≡◌, ◌≢◌, ℕ, ◌==◌, Bool, true, false, ◌||◌, List, [], ◌∷◌, ◌++◌}
use Rattle.gcx_base.specs.Characters.{is_char}
use Rattle.xq_lex.specs.Sign.{begins}
use Rattle.doc_chars.specs.Reference.{Refers}

abbrev pub is_quote : ℕ → Bool
is_quote c = (c == 34) || (c == 39)

-- What stands in a string: a character, the delimiter doubled, or `&` and a reference, which is all up to its `;`.
pub data Part : Type 0 where
  plain : (c : ℕ) → Part
  doubled : Part
  reference : (text : List ℕ) (c : ℕ) → Part

abbrev pub part_chars : (quote : ℕ) → Part → (rest : List ℕ) → List ℕ
part_chars quote (plain c) rest = c ∷ rest
part_chars quote doubled rest = quote ∷ quote ∷ rest
part_chars quote (reference text c) rest = 38 ∷ (text ++ rest)

-- a bare `&` and a single delimiter are no parts
abbrev pub IsPart : (quote : ℕ) → Part → Type 0
IsPart quote (plain c) = (is_char c ≡ true) × (c == quote ≡ false) × (c == 38 ≡ false)
IsPart quote doubled = Unit {0}
IsPart quote (reference text c) = Refers text c

-- the character that it stands for
abbrev pub part_value : (quote : ℕ) → Part → ℕ
part_value quote (plain c) = c
part_value quote doubled = quote
part_value quote (reference text c) = c

-- the parts, before `rest`
abbrev pub parts_chars : (quote : ℕ) → List Part → (rest : List ℕ) → List ℕ
parts_chars quote [] rest = rest
parts_chars quote (p ∷ ps) rest = part_chars quote p (parts_chars quote ps rest)

abbrev pub AreParts : (quote : ℕ) → List Part → Type 0
AreParts quote [] = Unit {0}
AreParts quote (p ∷ ps) = IsPart quote p × AreParts quote ps

abbrev pub parts_value : (quote : ℕ) → List Part → List ℕ
parts_value quote [] = []
parts_value quote (p ∷ ps) = part_value quote p ∷ parts_value quote ps

-- No part begins the text.
abbrev pub BeginsWithNoPart : (quote : ℕ) → List ℕ → Type 0
BeginsWithNoPart quote text = (part : Part) (rest : List ℕ) → IsPart quote part → text ≢ part_chars quote part rest

-- Behind the delimiter a string of these parts is closed, and then comes `rest`.
pub record HasString (quote : ℕ) (text : List ℕ) (parts : List Part) (rest : List ℕ) : Type 0 where
  pub good : AreParts quote parts
  pub chars : text ≡ parts_chars quote parts (quote ∷ rest)
  pub single : begins quote rest ≡ false
