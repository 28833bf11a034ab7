-- How each token of a printed query is written, and what may stand directly behind it.
use Rattle.std.proofs.Common.{ℕ, ℤ, ◌≡◌, ◌/◌, ◌%◌, ◌^◌, ◌==◌, Bool, true, false, not, ◌||◌, pos, negsuc, List, [], ◌∷◌}
use Rattle.std.specs.Prelude.{unsigned_abs, codes, if◌then◌else◌, IsUtf8}
use Rattle.std.specs.Fmt.{decimal}
use Rattle.std.specs.Str.{chars, encode_utf8_all}
use Rattle.gcx_base.specs.Characters.{is_part_char}
use Rattle.xq_lex.specs.declared.sign.Sign.{Sign}
use Rattle.xq_lex.specs.declared.sign.Sign.TheVariants as signs
use Rattle.xq_lex.specs.declared.token.TokKind.{TokKind}
use Rattle.xq_lex.specs.declared.token.TokKind.TheVariants as kinds
use Rattle.xq_lex.specs.Sign.{begins}
use Rattle.xq_lex.specs.Strings.{Part, plain, doubled, reference}
use Rattle.xq_lex.specs.Form.{Form, name, variable, number, string, sign, form_chars, BeginsWith, kind_of, is_too_wide}
use Rattle.xq_print.specs.Literals.{places, without_zeros}
use Rattle.xq_print.proofs.Pieces.{Piece, put, blank}

abbrev pub is_minus : ℤ → Bool
is_minus (pos n) = false
is_minus (negsuc n) = true

-- the digits before the point, and those behind it
abbrev pub whole_digits : ℤ → List ℕ
whole_digits units = decimal (unsigned_abs units / 10 ^ 18)

abbrev pub fraction_digits : ℤ → List ℕ
fraction_digits units = without_zeros (places 18 (unsigned_abs units % 10 ^ 18))

-- a character in quotes
abbrev pub part_of : ℕ → Part
part_of c = if c == 34 then doubled else if c == 38 then reference (codes "amp;") 38 else plain c

abbrev pub parts_of : List ℕ → List Part
parts_of [] = []
parts_of (c ∷ cs) = part_of c ∷ parts_of cs

abbrev pub form_of : TokKind → Form
form_of (kinds.Name n) = name (chars n)
form_of (kinds.Var n) = variable (chars n)
form_of (kinds.Number u) = number (is_minus u) (whole_digits u) (fraction_digits u)
form_of (kinds.Str v) = string 34 (parts_of (chars v))
form_of (kinds.Sign s) = sign s

-- the characters of the pieces, before `rest`
abbrev pub pieces_chars : List Piece → (rest : List ℕ) → List ℕ
pieces_chars [] rest = rest
pieces_chars (put k ∷ ps) rest = form_chars (form_of k) (pieces_chars ps rest)
pieces_chars (blank ∷ ps) rest = 32 ∷ pieces_chars ps rest

-- nothing that goes on a name or a number begins the text
abbrev pub ends_word : List ℕ → Bool
ends_word [] = true
ends_word (c ∷ cs) = not (is_part_char c)

-- no longer sign, and no comment, comes of what follows
abbrev pub ends_sign : Sign → List ℕ → Bool
ends_sign signs.ParenOpen rest = not (begins 58 rest)
ends_sign signs.ParenClose rest = true
ends_sign signs.BraceOpen rest = true
ends_sign signs.BraceClose rest = true
ends_sign signs.Comma rest = true
ends_sign signs.Slash rest = not (begins 47 rest || begins 62 rest)
ends_sign signs.SlashSlash rest = true
ends_sign signs.Axis rest = true
ends_sign signs.Star rest = true
ends_sign signs.Eq rest = true
ends_sign signs.Ne rest = true
ends_sign signs.Lt rest = not (begins 61 rest || begins 47 rest)
ends_sign signs.Le rest = true
ends_sign signs.Gt rest = not (begins 61 rest)
ends_sign signs.Ge rest = true
ends_sign signs.EndTag rest = true
ends_sign signs.EmptyEnd rest = true

abbrev pub may_follow : TokKind → List ℕ → Bool
may_follow (kinds.Name n) rest = ends_word rest
may_follow (kinds.Var n) rest = ends_word rest
may_follow (kinds.Number u) rest = ends_word rest
may_follow (kinds.Str v) rest = not (begins 34 rest)
may_follow (kinds.Sign s) rest = ends_sign s rest

-- The form is a token of this kind before each text that may follow it.
pub record Fits (f : Form) (kind : TokKind) : Type 0 where
  pub is : kind ≡ kind_of f
  pub in_range : is_too_wide f ≡ false
  pub utf8 : IsUtf8 (encode_utf8_all (form_chars f []))
  pub begins : (rest : List ℕ) → may_follow kind rest ≡ true → BeginsWith (form_chars f rest) f rest
