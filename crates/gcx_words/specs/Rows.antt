-- What `clap` finds in the words of a command line.
use Rattle.std.specs.Prelude.{ℕ, Bool, false, nat_le, ◌&&◌, List, [], ◌∷◌, codes, if◌then◌else◌, option_and_then, option_map}
use Rattle.std.specs.declared.option.Option.{Option}
use Rattle.std.specs.declared.option.Option.TheVariants.{Some, None}
use Rattle.std.specs.Option.{option_map_or}
use Rattle.std.specs.Str.{bytes_eq}
use Rattle.std.specs.Str.Parse.{digits_value, without_leading_plus}
use Rattle.clap.specs.Words.{App, Kinds, Row, Text, first_of, one_of, fault_of, found_of, matches_of, rows_of}
use Rattle.clap.specs.ValueTests.{is_unsigned_in}
use Rattle.clap.specs.declared.parser.ArgMatches.{ArgMatches}

-- the rows, where there is no fault
abbrev pub found_if : Kinds → List Row → Option (List Row)
found_if [] rows = Some rows
found_if (k ∷ ks) rows = None

-- what a simple command finds in the words, the first of which is its name; None where it doesn't take them
unfoldable pub found_by : App → List Text → Option (List Row)
found_by app words = found_if (fault_of app words) (matches_of app words)

-- the same as the code has it
abbrev pub rows_found : Option ArgMatches → Option (List Row)
rows_found found = option_map (λ m. rows_of (found_of m)) found

-- the number that a text names, with a plus or not before its digits, where it is one of 64 bits
abbrev pub read_number : Text → Option ℕ
read_number text = if is_unsigned_in 0 18446744073709551615 text then Some (digits_value 10 (without_leading_plus text)) else None

-- the number under an id
abbrev pub any_number_at : Text → List Row → Option ℕ
any_number_at id rows = option_and_then read_number (one_of id rows)

abbrev pub between : (low high : ℕ) → ℕ → Option ℕ
between low high n = if nat_le low n && nat_le n high then Some n else None

-- the same where it lies between two numbers
abbrev pub number_at : (low high : ℕ) → Text → List Row → Option ℕ
number_at low high id rows = option_and_then (between low high) (any_number_at id rows)

-- whether a flag was given
abbrev pub flag_at : Text → List Row → Bool
flag_at id rows = option_map_or (λ t. bytes_eq t (codes "true")) (first_of id rows) false
