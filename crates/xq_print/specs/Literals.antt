-- How the literals of a query are printed: numbers in units of 10^-18, and strings (this project's).
use Rattle.std.specs.Prelude.{ℕ, zero, suc, ◌+◌, ◌/◌, ◌%◌, ◌^◌, ◌==◌, ℤ, pos, negsuc, unsigned_abs, List, [], ◌∷◌, ◌++◌, flat_map, codes, if◌then◌else◌}
use Rattle.std.specs.Fmt.{decimal}
use Rattle.std.specs.Str.{chars, encode_utf8_all}

-- the last `count` digits of n, zeros at their front too
unfoldable pub places : (count n : ℕ) → List ℕ
places zero n = []
places (suc count) n = (48 + n / 10 ^ count % 10) ∷ places count n

-- a digit before others; a zero with none behind it goes
abbrev pub kept_before : ℕ → List ℕ → List ℕ
kept_before d [] = if d == 48 then [] else d ∷ []
kept_before d (e ∷ es) = d ∷ e ∷ es

-- without the zeros at their end
abbrev pub without_zeros : List ℕ → List ℕ
without_zeros [] = []
without_zeros (d ∷ ds) = kept_before d (without_zeros ds)

-- a point and the digits, or nothing where there are none
abbrev pub with_point : List ℕ → List ℕ
with_point [] = []
with_point (d ∷ ds) = 46 ∷ d ∷ ds

-- of a number below 1, in units
abbrev pub fraction_text : ℕ → List ℕ
fraction_text n = with_point (without_zeros (places 18 n))

abbrev pub minus_text : ℤ → List ℕ
minus_text (pos n) = []
minus_text (negsuc n) = codes "-"

abbrev pub number_text : ℤ → List ℕ
number_text units = minus_text units ++ (decimal (unsigned_abs units / 10 ^ 18) ++ fraction_text (unsigned_abs units % 10 ^ 18))

-- A character of a string: a quote is doubled, `&` is written as a reference.
abbrev pub quoted : ℕ → List ℕ
quoted c = if c == 34 then codes "\"\"" else if c == 38 then codes "&amp;" else c ∷ []

-- the string of this value, both as bytes
abbrev pub string_text : List ℕ → List ℕ
string_text value = codes "\"" ++ (encode_utf8_all (flat_map quoted (chars value)) ++ codes "\"")
