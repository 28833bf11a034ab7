-- This follows the code, for its proofs: no public clause speaks of it.
-- What a token is by its first characters, and what is answered of the text that it begins.
use Rattle.std.specs.Prelude.{ℕ, ◌==◌, Bool, not, ◌&&◌, ◌||◌, if◌then◌else◌, List, [], ◌∷◌, drop, Option, Some, None, length}
use Rattle.gcx_model.specs.Values.{is_digit_byte}
use Rattle.xq_lex.specs.Names.{may_begin, is_pair}
use Rattle.xq_lex.specs.Numbers.{digits_at, fraction_at}
use Rattle.xq_lex.specs.Strings.{is_quote}
use Rattle.xq_lex.specs.Form.{Form, name, variable, number, string, sign}

pub data Kind : Type 0 where
  of_nothing : Kind
  of_variable : Kind
  of_string : Kind
  of_number : Kind
  of_name : Kind
  of_sign : Kind

-- what a token at the front of the text can be
unfoldable pub kind_at : List ℕ → Kind
kind_at [] = of_nothing
kind_at (c ∷ cs) =
    if c == 36 then of_variable
    else if is_quote c then of_string
    else if (c == 45) || is_digit_byte c then of_number
    else if may_begin c && not (is_pair (c ∷ cs)) then of_name
    else of_sign

abbrev pub kind_of_form : Form → Kind
kind_of_form (name chars) = of_name
kind_of_form (variable chars) = of_variable
kind_of_form (number minus whole fraction) = of_number
kind_of_form (string quote parts) = of_string
kind_of_form (sign s) = of_sign

abbrev pub number_from : Bool → (digits behind : List ℕ) → Option Form
number_from minus [] behind = None
number_from minus (d ∷ ds) behind = Some (number minus (d ∷ ds) (fraction_at behind))

abbrev pub unsigned_at : Bool → List ℕ → Option Form
unsigned_at minus cs = number_from minus (digits_at cs) (drop (length (digits_at cs)) cs)
