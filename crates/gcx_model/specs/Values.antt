-- Values: which bytes count as a number, as which number, and how a pair of values compares
-- (general comparisons of untyped values: XQuery 1.0, section 3.5.2; the number rule is this project's).
use Rattle.std.specs.Prelude.{◌≡◌, ℕ, ◌+◌, ◌-◌, ◌*◌, ◌^◌, ℤ, pos, neg_ℤ, ◌*ℤ◌, Bool, true, false, ◌&&◌, ◌||◌, ◌==◌, nat_lt, nat_le, if◌then◌else◌, List, [], ◌∷◌, ◌++◌, length, reverse, Option, Some, None, option_map}
use Rattle.std.specs.List.{list_all, before_first, after_first}
use Rattle.std.specs.Ordering.{int_cmp, nat_cmp, ordering_reverse, is_some_and, is_eq, is_ne, is_lt, is_le, is_gt, is_ge}
use Rattle.std.specs.declared.cmp.Ordering.{Ordering}
use Rattle.std.specs.Cmp.Lexicographic.{slice_cmp}
use Rattle.gcx_base.specs.Characters.{is_white}
use Rattle.gcx_base.specs.declared.rel.Rel.{Rel}
use Rattle.gcx_base.specs.declared.rel.Rel.TheVariants.{Eq, Ne, Lt, Le, Gt, Ge}

-- ---- The number as which a value counts: optional white space, an optional sign, digits with an optional point among
-- or round them (at least one digit), optional white space.

abbrev pub is_digit_byte : ℕ → Bool
is_digit_byte c = nat_le 48 c && nat_le c 57

-- without the white space at one end, at both ends
abbrev pub without_front : List ℕ → List ℕ
without_front [] = []
without_front (c ∷ cs) = if is_white c then without_front cs else c ∷ cs

abbrev pub without_back : List ℕ → List ℕ
without_back v = reverse (without_front (reverse v))

abbrev pub trimmed : List ℕ → List ℕ
trimmed v = without_back (without_front v)

-- `-`
abbrev pub is_negative : List ℕ → Bool
is_negative [] = false
is_negative (c ∷ cs) = c == 45

-- without `+` or `-` at the front
abbrev pub without_sign : List ℕ → List ℕ
without_sign [] = []
without_sign (c ∷ cs) = if (c == 43) || (c == 45) then cs else c ∷ cs

-- before the first point, or all where there is none, and behind it
abbrev pub is_point : ℕ → Bool
is_point c = c == 46

abbrev pub whole_of : List ℕ → List ℕ
whole_of t = before_first is_point t

abbrev pub fraction_of : List ℕ → List ℕ
fraction_of t = after_first is_point t

-- nothing but digits, and at least one
abbrev pub is_numeral : List ℕ → Bool
is_numeral ds = nat_lt 0 (length ds) && list_all is_digit_byte ds

-- the number that digits write behind those of n
abbrev pub digits_from : ℕ → List ℕ → ℕ
digits_from n [] = n
digits_from n (d ∷ ds) = digits_from (n * 10 + (d - 48)) ds

abbrev pub with_sign : Bool → ℕ → ℤ
with_sign minus n = if minus then neg_ℤ (pos n) else pos n

-- a number in units of 10^-places
pub record Decimal : Type 0 where
  pub units : ℤ
  pub places : ℕ

-- the integer of all digits with the sign, and how many stand behind the point
abbrev pub decimal_number : Bool → List ℕ → List ℕ → Decimal
decimal_number minus whole fraction = record { units = with_sign minus (digits_from 0 (whole ++ fraction)); places = length fraction }

abbrev pub decimal_of : Bool → List ℕ → List ℕ → Option Decimal
decimal_of minus whole fraction = if is_numeral (whole ++ fraction) then Some (decimal_number minus whole fraction) else None

unfoldable pub number : List ℕ → Option Decimal
number v = let t = trimmed v in decimal_of (is_negative t) (whole_of (without_sign t)) (fraction_of (without_sign t))

-- ---- The same rule as a grammar: white space, a sign, a numeral, white space.

pub data Sign : Type 0 where
  Bare : Sign
  Plus : Sign
  Minus : Sign

abbrev pub sign_bytes : Sign → List ℕ
sign_bytes Bare = []
sign_bytes Plus = 43 ∷ []
sign_bytes Minus = 45 ∷ []

abbrev pub is_minus : Sign → Bool
is_minus Bare = false
is_minus Plus = false
is_minus Minus = true

-- digits alone, or a point with digits before and behind it
pub data Numeral : Type 0 where
  DigitsAlone : (digits : List ℕ) → Numeral
  Pointed : (before behind : List ℕ) → Numeral

abbrev pub numeral_bytes : Numeral → List ℕ
numeral_bytes (DigitsAlone digits) = digits
numeral_bytes (Pointed before behind) = before ++ 46 ∷ behind

abbrev pub before_point : Numeral → List ℕ
before_point (DigitsAlone digits) = digits
before_point (Pointed before behind) = before

abbrev pub behind_point : Numeral → List ℕ
behind_point (DigitsAlone digits) = []
behind_point (Pointed before behind) = behind

-- v is spelled in this way, and d is its number
pub record CountsAs (v : List ℕ) (d : Decimal) : Type 0 where
  pub front : List ℕ
  pub sign : Sign
  pub numeral : Numeral
  pub back : List ℕ
  pub bytes : v ≡ front ++ ((sign_bytes sign ++ numeral_bytes numeral) ++ back)
  pub white_front : list_all is_white front ≡ true
  pub white_back : list_all is_white back ≡ true
  pub digits : is_numeral (before_point numeral ++ behind_point numeral) ≡ true
  pub value : d ≡ decimal_number (is_minus sign) (before_point numeral) (behind_point numeral)

-- ---- Pairs of values.

-- a number against a literal in units of 10^-18
abbrev pub against : Decimal → ℤ → Ordering
against d l = int_cmp (d.units *ℤ pos (10 ^ 18)) (l *ℤ pos (10 ^ d.places))

-- the bytes of a node or of a string literal, or a number literal in units of 10^-18
pub data ComparedValue : Type 0 where
  Bytes : (bytes : List ℕ) → ComparedValue
  Units : (units : ℤ) → ComparedValue

-- None where a value that is compared with a number doesn't count as one
abbrev pub order : ComparedValue → ComparedValue → Option Ordering
order (Bytes v) (Bytes w) = Some (slice_cmp nat_cmp v w)
order (Bytes v) (Units l) = option_map (λ d. against d l) (number v)
order (Units l) (Bytes w) = option_map (λ d. ordering_reverse (against d l)) (number w)
order (Units l) (Units k) = Some (int_cmp l k)

abbrev pub rel_holds : Rel → Ordering → Bool
rel_holds Eq o = is_eq o
rel_holds Ne o = is_ne o
rel_holds Lt o = is_lt o
rel_holds Le o = is_le o
rel_holds Gt o = is_gt o
rel_holds Ge o = is_ge o

-- whether a relation holds of a pair; of one that has no order none does
abbrev pub compare : Rel → ComparedValue → ComparedValue → Bool
compare rel v w = is_some_and (rel_holds rel) (order v w)
