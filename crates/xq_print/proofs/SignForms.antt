-- Signs, before what makes no longer one of them.
use Rattle.std.proofs.Common.{ℕ, ◌≡◌, Bool, true, false, not, ◌||◌, cond, List, [], ◌++◌, Some, refl, sym, ap, ◌∙◌, subst}
use Rattle.std.specs.Prelude.{IsUtf8}
use Rattle.std.specs.Str.{encode_utf8_all}
use Rattle.std.proofs.lemmas.Bool.{or_parts, cond-true, cond-false, not-true}
use Rattle.std.proofs.lemmas.List.{append_cancel_left}
use Rattle.xq_lex.specs.declared.sign.Sign.{Sign}
use Rattle.xq_lex.specs.declared.sign.Sign.TheVariants as signs
use Rattle.xq_lex.specs.declared.token.TokKind.TheVariants as kinds
use Rattle.xq_lex.specs.Sign.{sign_chars, begins, sign_at}
use Rattle.xq_lex.specs.Form.{sign, BeginsWith}
use Rattle.xq_lex.proofs.FormLaws.{sign_begins}
use Rattle.xq_print.proofs.Forms.{ends_sign, Fits}

neither : {A : Type 0} (a b : Bool) (x y z : A) → not (a || b) ≡ true → cond a x (cond b y z) ≡ z
neither a b x y z e =
    let parts : (a ≡ false) × (b ≡ false) = or_parts a b (not-true (a || b) e) in
    cond-false a x (cond b y z) parts.0 ∙ cond-false b y z parts.1

found : (s : Sign) (rest : List ℕ) → ends_sign s rest ≡ true → sign_at (sign_chars s ++ rest) ≡ Some s
found signs.ParenOpen rest e = cond-true (not (begins 58 rest)) (Some signs.ParenOpen) _ e
found signs.ParenClose rest e = refl
found signs.BraceOpen rest e = refl
found signs.BraceClose rest e = refl
found signs.Comma rest e = refl
found signs.Slash rest e = ap (λ (s : Sign). Some s) (neither (begins 47 rest) (begins 62 rest) signs.SlashSlash signs.EmptyEnd signs.Slash e)
found signs.SlashSlash rest e = refl
found signs.Axis rest e = refl
found signs.Star rest e = refl
found signs.Eq rest e = refl
found signs.Ne rest e = refl
found signs.Lt rest e = ap (λ (s : Sign). Some s) (neither (begins 61 rest) (begins 47 rest) signs.Le signs.EndTag signs.Lt e)
found signs.Le rest e = refl
found signs.Gt rest e = cond-false (begins 61 rest) (Some signs.Ge) (Some signs.Gt) (not-true (begins 61 rest) e)
found signs.Ge rest e = refl
found signs.EndTag rest e = refl
found signs.EmptyEnd rest e = refl

sign_whole : (s : Sign) (rest : List ℕ) → ends_sign s rest ≡ true → BeginsWith (sign_chars s ++ rest) (sign s) rest
sign_whole s rest ends = by (sign_begins (sign_chars s ++ rest) s (found s rest ends))
  where
    by : (r : List ℕ) × BeginsWith (sign_chars s ++ rest) (sign s) r → BeginsWith (sign_chars s ++ rest) (sign s) rest
    by (r, b) = subst (λ (x : List ℕ). BeginsWith (sign_chars s ++ rest) (sign s) x) (sym (append_cancel_left (sign_chars s) rest r b.chars)) b

utf8 : (s : Sign) → IsUtf8 (encode_utf8_all (sign_chars s ++ []))
utf8 signs.ParenOpen = (sign_chars signs.ParenOpen, (refl, refl))
utf8 signs.ParenClose = (sign_chars signs.ParenClose, (refl, refl))
utf8 signs.BraceOpen = (sign_chars signs.BraceOpen, (refl, refl))
utf8 signs.BraceClose = (sign_chars signs.BraceClose, (refl, refl))
utf8 signs.Comma = (sign_chars signs.Comma, (refl, refl))
utf8 signs.Slash = (sign_chars signs.Slash, (refl, refl))
utf8 signs.SlashSlash = (sign_chars signs.SlashSlash, (refl, refl))
utf8 signs.Axis = (sign_chars signs.Axis, (refl, refl))
utf8 signs.Star = (sign_chars signs.Star, (refl, refl))
utf8 signs.Eq = (sign_chars signs.Eq, (refl, refl))
utf8 signs.Ne = (sign_chars signs.Ne, (refl, refl))
utf8 signs.Lt = (sign_chars signs.Lt, (refl, refl))
utf8 signs.Le = (sign_chars signs.Le, (refl, refl))
utf8 signs.Gt = (sign_chars signs.Gt, (refl, refl))
utf8 signs.Ge = (sign_chars signs.Ge, (refl, refl))
utf8 signs.EndTag = (sign_chars signs.EndTag, (refl, refl))
utf8 signs.EmptyEnd = (sign_chars signs.EmptyEnd, (refl, refl))

pub sign_fits : (s : Sign) → Fits (sign s) (kinds.Sign s)
sign_fits s = record { is = refl; in_range = refl; utf8 = utf8 s; begins = λ rest ends. sign_whole s rest ends }
