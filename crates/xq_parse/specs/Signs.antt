-- This follows the code, for its proofs: no public clause speaks of it.
-- Signs compared.
use Rattle.std.specs.Prelude.{ℕ, Bool, ◌||◌, eqb}
use Rattle.xq_lex.specs.declared.sign.Sign.{Sign}
use Rattle.xq_lex.specs.declared.sign.Sign.TheVariants as signs

abbrev pub sign_code : Sign → ℕ
sign_code signs.ParenOpen = 0
sign_code signs.ParenClose = 1
sign_code signs.BraceOpen = 2
sign_code signs.BraceClose = 3
sign_code signs.Comma = 4
sign_code signs.Slash = 5
sign_code signs.SlashSlash = 6
sign_code signs.Axis = 7
sign_code signs.Star = 8
sign_code signs.Eq = 9
sign_code signs.Ne = 10
sign_code signs.Lt = 11
sign_code signs.Le = 12
sign_code signs.Gt = 13
sign_code signs.Ge = 14
sign_code signs.EndTag = 15
sign_code signs.EmptyEnd = 16

abbrev pub sign_eq : Sign → Sign → Bool
sign_eq a b = eqb (sign_code a) (sign_code b)

-- `/` or `//`
abbrev pub is_slash : Sign → Bool
is_slash s = sign_eq s signs.Slash || sign_eq s signs.SlashSlash
