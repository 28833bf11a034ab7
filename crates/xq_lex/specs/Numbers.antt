-- Numbers in a query: their text, their value and the range of values (this project's).
use Rattle.std.specs.Prelude.{ℕ, ◌+◌, ◌-◌, ◌*◌, ◌^◌, ◌==◌, ℤ, Bool, true, false, ◌&&◌, ◌||◌, nat_lt, if◌then◌else◌, List, [], ◌∷◌, ◌++◌, length}
use Rattle.std.specs.List.{list_all}
use Rattle.gcx_model.specs.Values.{digits_from, is_digit_byte, is_numeral, with_sign}

-- The text of a number: an optional `-`, digits, and optionally a point and digits.
abbrev pub minus_chars : Bool → List ℕ
minus_chars true = 45 ∷ []
minus_chars false = []

-- no fraction, no point
abbrev pub fraction_chars : List ℕ → List ℕ
fraction_chars [] = []
fraction_chars (d ∷ ds) = 46 ∷ d ∷ ds

abbrev pub number_chars : (minus : Bool) (whole fraction : List ℕ) → List ℕ
number_chars minus whole fraction = minus_chars minus ++ (whole ++ fraction_chars fraction)

-- at least one digit before the point, and any number behind it
abbrev pub is_number : (whole fraction : List ℕ) → Bool
is_number whole fraction = is_numeral whole && list_all is_digit_byte fraction

-- The value in units of 10^-18, where at most 18 digits stand behind the point.
abbrev pub size_of : (whole fraction : List ℕ) → ℕ
size_of whole fraction = digits_from 0 whole * 10 ^ 18 + digits_from 0 fraction * 10 ^ (18 - length fraction)

abbrev pub units_of : (minus : Bool) (whole fraction : List ℕ) → ℤ
units_of minus whole fraction = with_sign minus (size_of whole fraction)

-- the largest size of the digits before the point: those that fit 64 bits with the sign
abbrev pub most_of : Bool → ℕ
most_of true = 2 ^ 63
most_of false = 2 ^ 63 - 1

abbrev pub is_wide : (minus : Bool) (whole fraction : List ℕ) → Bool
is_wide minus whole fraction = nat_lt (most_of minus) (digits_from 0 whole) || nat_lt 18 (length fraction)

-- The longest number at the front.
abbrev pub digits_at : List ℕ → List ℕ
digits_at [] = []
digits_at (c ∷ cs) = if is_digit_byte c then c ∷ digits_at cs else []

-- the digits behind a point at the front
abbrev pub fraction_at : List ℕ → List ℕ
fraction_at [] = []
fraction_at (c ∷ cs) = if c == 46 then digits_at cs else []
