-- What a token can be is seen at its first characters.
use Rattle.std.proofs.Common.{ℕ, ◌≡◌, ◌≤◌, ◌<◌, ◌⊎◌, ◌==◌, Bool, true, false, not, ◌&&◌, ◌||◌, List, [], ◌∷◌, ◌++◌, refl, sym, ◌∙◌, subst, arith, inl, inr, eqb-true}
use Rattle.std.proofs.lemmas.Bool.{and_parts, and_from, or_cases, or_from, cond-true, cond-false, leb-true, not_from_false, ne_eqb}
use Rattle.std.proofs.lemmas.Bool.Decides.{nat_tests}
use Rattle.std.specs.Prelude.{nat_le}
use Rattle.gcx_base.specs.Characters.{between, is_ascii_start, is_wide_start}
use Rattle.gcx_model.specs.Values.{is_digit_byte, is_numeral}
use Rattle.xq_lex.specs.declared.sign.Sign.{Sign}
use Rattle.xq_lex.specs.declared.sign.Sign.TheVariants.{ParenOpen, ParenClose, BraceOpen, BraceClose, Comma, Slash, SlashSlash, Axis, Star, Eq, Ne, Lt, Le, Gt, Ge, EndTag, EmptyEnd}
use Rattle.xq_lex.specs.Sign.{sign_chars}
use Rattle.xq_lex.specs.Names.{may_begin, is_pair}
use Rattle.xq_lex.specs.Strings.{is_quote}
use Rattle.xq_lex.specs.Form.{Form, name, variable, number, string, sign, form_chars, IsForm}
use Rattle.xq_lex.proofs.NameLaws.{IsParted, name_parts}
use Rattle.xq_lex.specs.Found.{of_variable, of_string, of_number, of_name, of_sign, kind_at, kind_of_form}

-- a start of a name is a colon or stands at least as high as `A`
high_range : (l h c : ℕ) → 58 ≤ l → between l h c ≡ true → 58 ≤ c
high_range l h c a e = let k : l ≤ c = leb-true l c (and_parts (nat_le l c) (nat_le c h) e).0 in omega arith

or_high : (a b : Bool) (c : ℕ) → (a ≡ true → 58 ≤ c) → (b ≡ true → 58 ≤ c) → (a || b) ≡ true → 58 ≤ c
or_high true b c p q e = p refl
or_high false b c p q e = q e

ascii_high : (c : ℕ) → is_ascii_start c ≡ true → 58 ≤ c
ascii_high c =
    or_high (c == 58) _ c (λ e. let k : c ≡ 58 = eqb-true c 58 e in omega arith)
    (or_high (between 65 90 c) _ c (high_range 65 90 c (omega arith))
    (or_high (c == 95) _ c (λ e. let k : c ≡ 95 = eqb-true c 95 e in omega arith) (high_range 97 122 c (omega arith))))

wide_high : (c : ℕ) → is_wide_start c ≡ true → 58 ≤ c
wide_high c =
    or_high (between 192 214 c) _ c (high_range 192 214 c (omega arith))
    (or_high (between 216 246 c) _ c (high_range 216 246 c (omega arith))
    (or_high (between 248 767 c) _ c (high_range 248 767 c (omega arith))
    (or_high (between 880 893 c) _ c (high_range 880 893 c (omega arith))
    (or_high (between 895 8191 c) _ c (high_range 895 8191 c (omega arith))
    (or_high (between 8204 8205 c) _ c (high_range 8204 8205 c (omega arith))
    (or_high (between 8304 8591 c) _ c (high_range 8304 8591 c (omega arith))
    (or_high (between 11264 12271 c) _ c (high_range 11264 12271 c (omega arith))
    (or_high (between 12289 55295 c) _ c (high_range 12289 55295 c (omega arith))
    (or_high (between 63744 64975 c) _ c (high_range 63744 64975 c (omega arith))
    (or_high (between 65008 65533 c) _ c (high_range 65008 65533 c (omega arith)) (high_range 65536 983039 c (omega arith))))))))))))

pub begins_high : (c : ℕ) → may_begin c ≡ true → 58 ≤ c
unfolding may_begin
begins_high c = or_high (is_ascii_start c) (is_wide_start c) c (ascii_high c) (wide_high c)

low_eqb : (c d : ℕ) → d < c → (c == d) ≡ false
low_eqb c d h = ne_eqb c d (λ e. omega arith)

digit_false : (c : ℕ) → 58 ≤ c → is_digit_byte c ≡ false
digit_false c h = grind (arith, nat_tests)

name_kind : (c : ℕ) (cs : List ℕ) → may_begin c ≡ true → is_pair (c ∷ cs) ≡ false → kind_at (c ∷ cs) ≡ of_name
unfolding kind_at
name_kind c cs begins pair =
    let high : 58 ≤ c = begins_high c begins in
    cond-false (c == 36) _ _ (low_eqb c 36 (omega arith))
    ∙ (cond-false (is_quote c) _ _ (or_from (c == 34) (c == 39) (low_eqb c 34 (omega arith)) (low_eqb c 39 (omega arith)))
    ∙ (cond-false ((c == 45) || is_digit_byte c) _ _ (or_from (c == 45) (is_digit_byte c) (low_eqb c 45 (omega arith)) (digit_false c high))
    ∙ cond-true (may_begin c && not (is_pair (c ∷ cs))) of_name of_sign (and_from (may_begin c) (not (is_pair (c ∷ cs))) begins (not_from_false (is_pair (c ∷ cs)) pair))))

digit_range : (c : ℕ) → is_digit_byte c ≡ true → (48 ≤ c) × (c ≤ 57)
digit_range c e = let both : (nat_le 48 c ≡ true) × (nat_le c 57 ≡ true) = and_parts (nat_le 48 c) (nat_le c 57) e in (leb-true 48 c both.0, leb-true c 57 both.1)

digit_kind : (c : ℕ) (cs : List ℕ) → is_digit_byte c ≡ true → kind_at (c ∷ cs) ≡ of_number
unfolding kind_at
digit_kind c cs e =
    let range : (48 ≤ c) × (c ≤ 57) = digit_range c e in
    cond-false (c == 36) _ _ (low_eqb c 36 (omega arith))
    ∙ (cond-false (is_quote c) _ _ (or_from (c == 34) (c == 39) (low_eqb c 34 (omega arith)) (low_eqb c 39 (omega arith)))
    ∙ cond-true ((c == 45) || is_digit_byte c) of_number _ (either (c == 45) (is_digit_byte c) e))
  where
    either : (a b : Bool) → b ≡ true → (a || b) ≡ true
    either true b e = refl
    either false b e = e

pub string_kind : (q : ℕ) (cs : List ℕ) → is_quote q ≡ true → kind_at (q ∷ cs) ≡ of_string
unfolding kind_at
string_kind q cs e = by (or_cases (q == 34) (q == 39) e)
  where
    by : ((q == 34) ≡ true) ⊎ ((q == 39) ≡ true) → kind_at (q ∷ cs) ≡ of_string
    by (inl h) = subst (λ (x : ℕ). kind_at (x ∷ cs) ≡ of_string) (sym (eqb-true q 34 h)) refl
    by (inr h) = subst (λ (x : ℕ). kind_at (x ∷ cs) ≡ of_string) (sym (eqb-true q 39 h)) refl

sign_kind : (s : Sign) (rest : List ℕ) → kind_at (sign_chars s ++ rest) ≡ of_sign
unfolding kind_at may_begin
sign_kind ParenOpen rest = refl
sign_kind ParenClose rest = refl
sign_kind BraceOpen rest = refl
sign_kind BraceClose rest = refl
sign_kind Comma rest = refl
sign_kind Slash rest = refl
sign_kind SlashSlash rest = refl
sign_kind Axis rest = refl
sign_kind Star rest = refl
sign_kind Eq rest = refl
sign_kind Ne rest = refl
sign_kind Lt rest = refl
sign_kind Le rest = refl
sign_kind Gt rest = refl
sign_kind Ge rest = refl
sign_kind EndTag rest = refl
sign_kind EmptyEnd rest = refl

pub variable_kind : (cs : List ℕ) → kind_at (36 ∷ cs) ≡ of_variable
unfolding kind_at
variable_kind cs = refl

minus_kind : (cs : List ℕ) → kind_at (45 ∷ cs) ≡ of_number
unfolding kind_at
minus_kind cs = refl

pub kind_is : (f : Form) (rest : List ℕ) → IsForm f rest → kind_at (form_chars f rest) ≡ kind_of_form f
kind_is (name []) rest good = cc (good)
kind_is (name (c ∷ cs)) rest good =
    let parted : IsParted c cs rest = name_parts c cs rest good in name_kind c (cs ++ rest) parted.begins parted.no_pair
kind_is (variable chars) rest good = variable_kind (chars ++ rest)
kind_is (number true whole fraction) rest good = minus_kind _
kind_is (number false [] fraction) rest good = cc (good)
kind_is (number false (d ∷ ds) fraction) rest good =
    let whole : is_numeral (d ∷ ds) ≡ true = (and_parts (is_numeral (d ∷ ds)) _ good).0 in
    digit_kind d _ (and_parts (is_digit_byte d) _ (and_parts _ (is_digit_byte d && _) whole).1).0
kind_is (string quote parts) rest good = string_kind quote _ good.0
kind_is (sign s) rest good = sign_kind s rest
