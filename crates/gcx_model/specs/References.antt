-- References to characters (XML 1.0, sections 4.1 and 4.6: the five names, and the numbers of characters).
use Rattle.std.specs.Prelude.{ℕ, ◌+◌, ◌-◌, ◌*◌, ◌==◌, ◌≡◌, Bool, true, false, ◌&&◌, ◌||◌, nat_le, List, [], ◌∷◌, ◌++◌, if◌then◌else◌}
use Rattle.gcx_base.specs.Characters.{between, is_char}

-- the names
pub data Entity : Type 0 where
  less_than : Entity
  greater_than : Entity
  ampersand : Entity
  apostrophe : Entity
  quotation : Entity

-- lt, gt, amp, apos, quot
abbrev pub entity_name : Entity → List ℕ
entity_name less_than = 108 ∷ (116 ∷ [])
entity_name greater_than = 103 ∷ (116 ∷ [])
entity_name ampersand = 97 ∷ (109 ∷ (112 ∷ []))
entity_name apostrophe = 97 ∷ (112 ∷ (111 ∷ (115 ∷ [])))
entity_name quotation = 113 ∷ (117 ∷ (111 ∷ (116 ∷ [])))

-- the character for which a name stands
abbrev pub entity_char : Entity → ℕ
entity_char less_than = 60
entity_char greater_than = 62
entity_char ampersand = 38
entity_char apostrophe = 39
entity_char quotation = 34

-- Digits, built at their end.
pub data Digits : Type 0 where
  no_digit : Digits
  digit : (before : Digits) (c : ℕ) → Digits

abbrev pub digits_spelling : Digits → List ℕ
digits_spelling no_digit = []
digits_spelling (digit before c) = digits_spelling before ++ (c ∷ [])

abbrev pub is_decimal : ℕ → Bool
is_decimal c = between 48 57 c

-- of either case
abbrev pub is_hexadecimal : ℕ → Bool
is_hexadecimal c = is_decimal c || (between 65 70 c || between 97 102 c)

abbrev pub AreDigits : (is_one : ℕ → Bool) → Digits → Type 0
AreDigits is_one no_digit = Unit {0}
AreDigits is_one (digit before c) = AreDigits is_one before × (is_one c ≡ true)

-- what a digit counts
abbrev pub worth : ℕ → ℕ
worth c = if nat_le c 57 then c - 48 else if nat_le c 70 then c - 55 else c - 87

-- the number that digits write
abbrev pub value_in : (base : ℕ) → Digits → ℕ
value_in base no_digit = 0
value_in base (digit before c) = value_in base before * base + worth c

-- &name;  &#digits;  &#xdigits;
pub data Reference : Type 0 where
  named : (name : Entity) → Reference
  decimal_reference : (digits : Digits) → Reference
  hexadecimal_reference : (digits : Digits) → Reference

abbrev pub reference_spelling : Reference → List ℕ
reference_spelling (named e) = 38 ∷ (entity_name e ++ (59 ∷ []))
reference_spelling (decimal_reference ds) = 38 ∷ (35 ∷ (digits_spelling ds ++ (59 ∷ [])))
reference_spelling (hexadecimal_reference ds) = 38 ∷ (35 ∷ (120 ∷ (digits_spelling ds ++ (59 ∷ []))))

-- the character for which it stands
abbrev pub reference_char : Reference → ℕ
reference_char (named e) = entity_char e
reference_char (decimal_reference ds) = value_in 10 ds
reference_char (hexadecimal_reference ds) = value_in 16 ds

-- a number is that of a Char: so there is a digit, since 0 is none
abbrev pub IsReference : Reference → Type 0
IsReference (named e) = Unit {0}
IsReference (decimal_reference ds) = AreDigits is_decimal ds × (is_char (value_in 10 ds) ≡ true)
IsReference (hexadecimal_reference ds) = AreDigits is_hexadecimal ds × (is_char (value_in 16 ds) ≡ true)

-- A reference that is begun: an ampersand and letters that begin a name; '&#'; '&#' and at least one digit; or '&#x' and digits.
pub data BegunReference : Type 0 where
  letters : (read : List ℕ) → BegunReference
  number : BegunReference
  decimals : (before : Digits) (c : ℕ) → BegunReference
  hexadecimals : (digits : Digits) → BegunReference

abbrev pub begun_spelling : BegunReference → List ℕ
begun_spelling (letters m) = 38 ∷ m
begun_spelling number = 38 ∷ (35 ∷ [])
begun_spelling (decimals ds c) = 38 ∷ (35 ∷ digits_spelling (digit ds c))
begun_spelling (hexadecimals ds) = 38 ∷ (35 ∷ (120 ∷ digits_spelling ds))

-- whether there is a list of which the second list is the first and then it
abbrev pub is_front : List ℕ → List ℕ → Bool
is_front [] w = true
is_front (c ∷ m) [] = false
is_front (c ∷ m) (d ∷ w) = (c == d) && is_front m w

-- letters that begin one of the names
abbrev pub begins_entity : List ℕ → Bool
begins_entity m = is_front m (entity_name less_than) || (is_front m (entity_name greater_than) || (is_front m (entity_name ampersand) || (is_front m (entity_name apostrophe) || is_front m (entity_name quotation))))

-- the greatest number of a character
abbrev pub greatest : ℕ
greatest = 1114111

-- some reference begins so: to each number up to the greatest, digits can be added that make it a Char's
abbrev pub IsBegun : BegunReference → Type 0
IsBegun (letters m) = begins_entity m ≡ true
IsBegun number = Unit {0}
IsBegun (decimals ds c) = AreDigits is_decimal (digit ds c) × (nat_le (value_in 10 (digit ds c)) greatest ≡ true)
IsBegun (hexadecimals ds) = AreDigits is_hexadecimal ds × (nat_le (value_in 16 ds) greatest ≡ true)
