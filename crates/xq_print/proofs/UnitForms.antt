-- The number of which these are the units, as it is printed.
use Rattle.std.proofs.Common.{ℕ, ℤ, zero, suc, ◌≡◌, ◌+◌, ◌-◌, ◌*◌, ◌/◌, ◌%◌, ◌^◌, ◌<◌, ◌≤◌, Bool, true, false, ◌&&◌, pos, negsuc, List, [], ◌∷◌, ◌++◌, length, refl, sym, ap, ◌∙◌, subst, arith, append-nil}
use Rattle.std.specs.Prelude.{nat_lt, unsigned_abs, IsUtf8}
use Rattle.std.specs.List.{list_all}
use Rattle.std.specs.Char.{IsScalar}
use Rattle.std.specs.Str.{all_scalars, encode_utf8_all}
use Rattle.std.proofs.Math.Nat.{mul-le-mul_left, one-le-pow, mod-lt, mul-add-div_right, div-eq_of_lt}
use Rattle.std.proofs.lemmas.Nat.{div-add-mod'}
use Rattle.std.proofs.lemmas.Bool.{and_parts, and_from, or_from, or_parts, lt-ltb, le-ltb, ltb-false}
use Rattle.std.proofs.lemmas.Bool.Decides.{nat_tests}
use Rattle.std.proofs.lemmas.Str.{encode_ascii, encodes-append, IsUtf8-append}
use Rattle.gcx_model.specs.Values.{digits_from, is_digit_byte, is_numeral, with_sign}
use Rattle.xq_lex.specs.declared.token.TokKind.TheVariants as kinds
use Rattle.xq_lex.specs.Numbers.{minus_chars, fraction_chars, number_chars, is_number, size_of, units_of, most_of, is_wide}
use Rattle.xq_lex.specs.Form.{number, form_chars}
use Rattle.xq_lex.proofs.DigitLaws.{few_below}
use Rattle.xq_print.specs.Literals.{with_point, minus_text, number_text}
use Rattle.xq_print.proofs.Forms.{is_minus, whole_digits, fraction_digits, Fits}
use Rattle.xq_print.proofs.NumberForms.{number_whole, AreDigitsOf, decimal_digits, ArePlacesOf, fraction_places}

-- ---- Units that a number in range has

size_back : (m : Bool) (n : ℕ) → unsigned_abs (with_sign m n) ≡ n
size_back true zero = refl
size_back true (suc n) = refl
size_back false n = refl

sign_back : (u : ℤ) → with_sign (is_minus u) (unsigned_abs u) ≡ u
sign_back (pos n) = refl
sign_back (negsuc n) = refl

divided : (p w f : ℕ) → 0 < p → f < p → (w * p + f) / p ≡ w
divided p w f positive small = mul-add-div_right positive w f ∙ (ap (λ (x : ℕ). w + x) (div-eq_of_lt {n = f} {m = p} small) ∙ omega arith)

-- with the sign that the units have, the whole part isn't larger than before
same_bound : (m : Bool) (w p f n : ℕ) → 0 < p → w * p + f ≡ n → w ≤ most_of m → w ≤ most_of (is_minus (with_sign m n))
same_bound false w p f n positive e h = h
same_bound true w p f (suc n) positive e h = h
same_bound true w p f zero positive e h =
    let one : w * 1 ≤ w * p = mul-le-mul_left w positive in
    let none : w ≤ 0 = omega arith in
    below none
  where
    below : w ≤ 0 → w ≤ most_of false
    below none = omega arith

-- the two parts of the size of a number that isn't wide
record InRange (m : Bool) (w f : List ℕ) : Type 0 where
  whole : digits_from 0 w ≤ most_of m
  fraction : digits_from 0 f * 10 ^ (18 - length f) < 10 ^ 18

in_range_of : (m : Bool) (w f : List ℕ) → is_number w f ≡ true → is_wide m w f ≡ false → InRange m w f
in_range_of m w f good narrow =
    let parts : (nat_lt (most_of m) (digits_from 0 w) ≡ false) × (nat_lt 18 (length f) ≡ false) = or_parts (nat_lt (most_of m) (digits_from 0 w)) (nat_lt 18 (length f)) narrow in
    record {
      whole = ltb-false (most_of m) (digits_from 0 w) parts.0;
      fraction = few_below f (and_parts (is_numeral w) (list_all is_digit_byte f) good).1 (ltb-false 18 (length f) parts.1);
    }

quotient_small : (m : Bool) (w p f : ℕ) → 0 < p → f < p → w ≤ most_of m → unsigned_abs (with_sign m (w * p + f)) / p ≤ most_of (is_minus (with_sign m (w * p + f)))
quotient_small m w p f positive small h =
    subst (λ (x : ℕ). x ≤ most_of (is_minus (with_sign m (w * p + f)))) (sym (ap (λ (x : ℕ). x / p) (size_back m (w * p + f)) ∙ divided p w f positive small))
    (same_bound m w p f (w * p + f) positive refl h)

pub whole_small : (u : ℤ) (m : Bool) (w f : List ℕ) → is_number w f ≡ true → is_wide m w f ≡ false → u ≡ units_of m w f → unsigned_abs u / 10 ^ 18 ≤ most_of (is_minus u)
whole_small u m w f good narrow e =
    let r : InRange m w f = in_range_of m w f good narrow in
    subst (λ (x : ℤ). unsigned_abs x / 10 ^ 18 ≤ most_of (is_minus x)) (sym e)
    (quotient_small m (digits_from 0 w) (10 ^ 18) (digits_from 0 f * 10 ^ (18 - length f)) (one-le-pow 18 10 (omega arith)) r.fraction r.whole)

-- ---- What is printed has the units.

bound_small : (m : Bool) → most_of m < 2 ^ 64
bound_small true = omega arith
bound_small false = omega arith

below_most : (n a b : ℕ) → n ≤ a → a < b → n < b
below_most n a b h k = omega arith

whole_is : (u : ℤ) → unsigned_abs u / 10 ^ 18 ≤ most_of (is_minus u) → AreDigitsOf (unsigned_abs u / 10 ^ 18) (whole_digits u)
whole_is u h = decimal_digits (unsigned_abs u / 10 ^ 18) (below_most (unsigned_abs u / 10 ^ 18) (most_of (is_minus u)) (2 ^ 64) h (bound_small (is_minus u)))

fraction_is : (u : ℤ) → ArePlacesOf 18 (unsigned_abs u % 10 ^ 18) (fraction_digits u)
fraction_is u = fraction_places 18 (unsigned_abs u % 10 ^ 18) (mod-lt (unsigned_abs u) (one-le-pow 18 10 (omega arith)))

number_good : (w f : List ℕ) (n k m : ℕ) → AreDigitsOf n w → ArePlacesOf k m f → is_number w f ≡ true
number_good w f n k m a b = and_from (is_numeral w) (list_all is_digit_byte f) (and_from (nat_lt 0 (length w)) (list_all is_digit_byte w) (lt-ltb 0 (length w) a.some) a.digits) b.digits

size_is : (n : ℕ) (w f : List ℕ) → AreDigitsOf (n / 10 ^ 18) w → ArePlacesOf 18 (n % 10 ^ 18) f → size_of w f ≡ n
size_is n w f a b = (λ i. a.value i * 10 ^ 18 + b.value i) ∙ div-add-mod' n (10 ^ 18)

narrow : (m : Bool) (n r : ℕ) (w f : List ℕ) → AreDigitsOf n w → ArePlacesOf 18 r f → n ≤ most_of m → is_wide m w f ≡ false
narrow m n r w f a b h =
    or_from (nat_lt (most_of m) (digits_from 0 w)) (nat_lt 18 (length f))
    (le-ltb (most_of m) (digits_from 0 w) (subst (λ (x : ℕ). x ≤ most_of m) (sym a.value) h)) (le-ltb 18 (length f) b.few)

-- ---- Its characters are bytes.

digit_scalar : (c : ℕ) → is_digit_byte c ≡ true → IsScalar c
digit_scalar c h = grind (arith, nat_tests)

digit_low : (c : ℕ) → is_digit_byte c ≡ true → c < 128
digit_low c h = grind (arith, nat_tests)

digits_scalars : (ds : List ℕ) → list_all is_digit_byte ds ≡ true → all_scalars ds ≡ true
digits_scalars [] h = refl
digits_scalars (d ∷ ds) h = let parts = and_parts (is_digit_byte d) (list_all is_digit_byte ds) h in (λ i. digit_scalar d parts.0 i && digits_scalars ds parts.1 i)

digits_bytes : (ds : List ℕ) → list_all is_digit_byte ds ≡ true → encode_utf8_all ds ≡ ds
digits_bytes [] h = refl
digits_bytes (d ∷ ds) h = let parts = and_parts (is_digit_byte d) (list_all is_digit_byte ds) h in (λ i. encode_ascii d (digit_low d parts.0) i ++ digits_bytes ds parts.1 i)

-- characters of which each is one byte
record AreBytes (cs : List ℕ) : Type 0 where
  utf8 : IsUtf8 cs
  same : encode_utf8_all cs ≡ cs

digits_are : (ds : List ℕ) → list_all is_digit_byte ds ≡ true → AreBytes ds
digits_are ds h = record { utf8 = (ds, (digits_scalars ds h, digits_bytes ds h)); same = digits_bytes ds h }

one_byte : (c : ℕ) → c < 128 → encode_utf8_all (c ∷ []) ≡ c ∷ []
one_byte c h = ap (λ (x : List ℕ). x ++ []) (encode_ascii c h)

minus_are : (m : Bool) → AreBytes (minus_chars m)
minus_are true = record { utf8 = (45 ∷ [], (refl, one_byte 45 (omega arith))); same = one_byte 45 (omega arith) }
minus_are false = record { utf8 = ([], (refl, refl)); same = refl }

both_are : (a b : List ℕ) → AreBytes a → AreBytes b → AreBytes (a ++ b)
both_are a b p q = record { utf8 = IsUtf8-append a b p.utf8 q.utf8; same = encodes-append a b ∙ (λ i. p.same i ++ q.same i) }

point_are : (ds : List ℕ) → list_all is_digit_byte ds ≡ true → AreBytes (fraction_chars ds)
point_are [] h = record { utf8 = ([], (refl, refl)); same = refl }
point_are (d ∷ ds) h = both_are (46 ∷ []) (d ∷ ds) (record { utf8 = (46 ∷ [], (refl, one_byte 46 (omega arith))); same = one_byte 46 (omega arith) }) (digits_are (d ∷ ds) h)

number_are : (m : Bool) (w f : List ℕ) → is_number w f ≡ true → AreBytes (number_chars m w f)
number_are m w f good =
    let both : (is_numeral w ≡ true) × (list_all is_digit_byte f ≡ true) = and_parts (is_numeral w) (list_all is_digit_byte f) good in
    let digits : list_all is_digit_byte w ≡ true = (and_parts (nat_lt 0 (length w)) (list_all is_digit_byte w) both.0).1 in
    both_are (minus_chars m) (w ++ fraction_chars f) (minus_are m) (both_are w (fraction_chars f) (digits_are w digits) (point_are f both.1))

pub number_fits : (u : ℤ) → unsigned_abs u / 10 ^ 18 ≤ most_of (is_minus u) → Fits (number (is_minus u) (whole_digits u) (fraction_digits u)) (kinds.Number u)
number_fits u h = record {
  is = ap kinds.Number (sym (ap (with_sign (is_minus u)) (size_is (unsigned_abs u) (whole_digits u) (fraction_digits u) (whole_is u h) (fraction_is u)) ∙ sign_back u));
  in_range = narrow (is_minus u) (unsigned_abs u / 10 ^ 18) (unsigned_abs u % 10 ^ 18) (whole_digits u) (fraction_digits u) (whole_is u h) (fraction_is u) h;
  utf8 = subst IsUtf8 (sym (ap encode_utf8_all (append-nil (number_chars (is_minus u) (whole_digits u) (fraction_digits u))) ∙ bytes.same)) bytes.utf8;
  begins = λ rest ends. number_whole (is_minus u) (whole_digits u) (fraction_digits u) rest good ends;
}
  where
    good : is_number (whole_digits u) (fraction_digits u) ≡ true
    good = number_good (whole_digits u) (fraction_digits u) (unsigned_abs u / 10 ^ 18) 18 (unsigned_abs u % 10 ^ 18) (whole_is u h) (fraction_is u)

    bytes : AreBytes (number_chars (is_minus u) (whole_digits u) (fraction_digits u))
    bytes = number_are (is_minus u) (whole_digits u) (fraction_digits u) good

-- ---- It is the text that is printed.

minus_same : (u : ℤ) → minus_chars (is_minus u) ≡ minus_text u
minus_same (pos n) = refl
minus_same (negsuc n) = refl

point_same : (ds : List ℕ) → fraction_chars ds ≡ with_point ds
point_same [] = refl
point_same (d ∷ ds) = refl

text_same : (u : ℤ) → number_chars (is_minus u) (whole_digits u) (fraction_digits u) ≡ number_text u
text_same u = (λ i. minus_same u i ++ (whole_digits u ++ point_same (fraction_digits u) i))

pub number_bytes : (u : ℤ) (rest : List ℕ) → unsigned_abs u / 10 ^ 18 ≤ most_of (is_minus u) →
    encode_utf8_all (form_chars (number (is_minus u) (whole_digits u) (fraction_digits u)) rest) ≡ number_text u ++ encode_utf8_all rest
number_bytes u rest h =
    encodes-append (number_chars (is_minus u) (whole_digits u) (fraction_digits u)) rest ∙ ap (λ (x : List ℕ). x ++ encode_utf8_all rest) (bytes.same ∙ text_same u)
  where
    good : is_number (whole_digits u) (fraction_digits u) ≡ true
    good = number_good (whole_digits u) (fraction_digits u) (unsigned_abs u / 10 ^ 18) 18 (unsigned_abs u % 10 ^ 18) (whole_is u h) (fraction_is u)

    bytes : AreBytes (number_chars (is_minus u) (whole_digits u) (fraction_digits u))
    bytes = number_are (is_minus u) (whole_digits u) (fraction_digits u) good
