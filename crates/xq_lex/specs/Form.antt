-- Tokens of a query as they are written, and the longest one at the front of a text (this project's language).
use Rattle.std.specs.Prelude.{◌≡◌, ◌≤◌, ℕ, Bool, true, false, List, ◌∷◌, ◌++◌, length}
use Rattle.std.specs.Str.{encode_utf8_all}
use Rattle.xq_lex.specs.declared.sign.Sign.{Sign}
use Rattle.xq_lex.specs.declared.token.TokKind.{TokKind}
use Rattle.xq_lex.specs.declared.token.TokKind.TheVariants as kinds
use Rattle.xq_lex.specs.Sign.{sign_chars, begins, opens_comment}
use Rattle.xq_lex.specs.Names.{is_query_name}
use Rattle.xq_lex.specs.Numbers.{number_chars, is_number, is_wide, units_of}
use Rattle.xq_lex.specs.Strings.{Part, is_quote, parts_chars, parts_value, AreParts}

pub data Form : Type 0 where
  name : (chars : List ℕ) → Form
  variable : (chars : List ℕ) → Form
  number : (minus : Bool) (whole fraction : List ℕ) → Form
  string : (quote : ℕ) (parts : List Part) → Form
  sign : (s : Sign) → Form

-- its characters, before `rest`
abbrev pub form_chars : Form → (rest : List ℕ) → List ℕ
form_chars (name chars) rest = chars ++ rest
form_chars (variable chars) rest = 36 ∷ (chars ++ rest)
form_chars (number minus whole fraction) rest = number_chars minus whole fraction ++ rest
form_chars (string quote parts) rest = quote ∷ parts_chars quote parts (quote ∷ rest)
form_chars (sign s) rest = sign_chars s ++ rest

-- It is a token where `rest` follows: a string doesn't end before another delimiter, and `(:` is no sign.
abbrev pub IsForm : Form → (rest : List ℕ) → Type 0
IsForm (name chars) rest = is_query_name chars rest ≡ true
IsForm (variable chars) rest = is_query_name chars rest ≡ true
IsForm (number minus whole fraction) rest = is_number whole fraction ≡ true
IsForm (string quote parts) rest = (is_quote quote ≡ true) × AreParts quote parts × (begins quote rest ≡ false)
IsForm (sign s) rest = opens_comment (sign_chars s ++ rest) ≡ false

-- The text begins with this token, the longest that it begins with, and then comes `rest`.
pub record BeginsWith (text : List ℕ) (form : Form) (rest : List ℕ) : Type 0 where
  pub chars : text ≡ form_chars form rest
  pub good : IsForm form rest
  pub longest : (other : Form) (more : List ℕ) → text ≡ form_chars other more → IsForm other more → length rest ≤ length more

-- No token begins the text.
abbrev pub BeginsWithNone : List ℕ → Type 0
BeginsWithNone text = (form : Form) (rest : List ℕ) → text ≡ form_chars form rest → IsForm form rest → ⊥

-- What the token is. Numbers are in units of 10^-18.
abbrev pub kind_of : Form → TokKind
kind_of (name chars) = kinds.Name (encode_utf8_all chars)
kind_of (variable chars) = kinds.Var (encode_utf8_all chars)
kind_of (number minus whole fraction) = kinds.Number (units_of minus whole fraction)
kind_of (string quote parts) = kinds.Str (encode_utf8_all (parts_value quote parts))
kind_of (sign s) = kinds.Sign s

-- a number outside the range of numbers
abbrev pub is_too_wide : Form → Bool
is_too_wide (name chars) = false
is_too_wide (variable chars) = false
is_too_wide (number minus whole fraction) = is_wide minus whole fraction
is_too_wide (string quote parts) = false
is_too_wide (sign s) = false
