-- Numbers, before what ends them, and the digits with which they are printed.
use Rattle.std.proofs.Common.{ℕ, zero, suc, ◌≡◌, ◌+◌, ◌-◌, ◌*◌, ◌/◌, ◌%◌, ◌^◌, ◌<◌, ◌≤◌, ◌==◌, Bool, true, false, List, [], ◌∷◌, ◌++◌, length, drop, Some, refl, sym, ap, ◌∙◌, subst, arith, append-nil, length-append}
use Rattle.std.specs.Prelude.{nat_lt}
use Rattle.std.specs.List.{list_all}
use Rattle.std.specs.Fmt.{decimal}
use Rattle.std.proofs.Math.Seq.{drop-append_seam}
use Rattle.std.proofs.Math.Nat.{pow-suc, one-le-pow, mod-lt}
use Rattle.std.proofs.lemmas.Nat.{pow-add, div-add-mod'}
use Rattle.std.proofs.lemmas.Bool.{and_parts, and_from, cond-false, not-true, false≢true, ne_eqb}
use Rattle.std.proofs.lemmas.Bool.Decides.{nat_tests}
use Rattle.std.proofs.lemmas.List.{append_cancel_left}
use Rattle.std.proofs.lemmas.List.Folds.{list_all-append}
use Rattle.std.proofs.lemmas.Fmt.{decimal_by_steps}
use Rattle.gcx_base.specs.Characters.{is_part_char}
use Rattle.gcx_model.specs.Values.{digits_from, is_digit_byte, is_numeral}
use Rattle.xq_lex.specs.Numbers.{minus_chars, fraction_chars, is_number, digits_at, fraction_at}
use Rattle.xq_lex.specs.Form.{Form, number, form_chars, BeginsWith}
use Rattle.xq_lex.specs.Found.{number_from, unsigned_at}
use Rattle.xq_lex.proofs.NumberLaws.{digits_at-append}
use Rattle.xq_lex.proofs.FormLaws.{regroup, BeginsNumber, number_begins, number_parts}
use Rattle.xq_print.specs.Literals.{places, without_zeros}
use Rattle.xq_print.proofs.Forms.{ends_word}
use Rattle.xq_print.proofs.Digits.{first_digit, no_digits, top_digit}

-- ---- The longest number

digit_part : (c : ℕ) → is_digit_byte c ≡ true → is_part_char c ≡ true
digit_part c h = grind (arith, nat_tests)

no_digit : (c : ℕ) → is_part_char c ≡ false → is_digit_byte c ≡ false
no_digit c h = by (is_digit_byte c) refl
  where
    by : (b : Bool) → is_digit_byte c ≡ b → b ≡ false
    by true e = sym (digit_part c e) ∙ h
    by false e = refl

no_digits_at : (rest : List ℕ) → ends_word rest ≡ true → digits_at rest ≡ []
no_digits_at [] e = refl
no_digits_at (c ∷ cs) e = cond-false (is_digit_byte c) (c ∷ digits_at cs) [] (no_digit c (not-true (is_part_char c) e))

no_point_at : (rest : List ℕ) → ends_word rest ≡ true → fraction_at rest ≡ []
no_point_at [] e = refl
no_point_at (c ∷ cs) e =
    let no : is_part_char c ≡ false = not-true (is_part_char c) e in
    cond-false (c == 46) (digits_at cs) [] (ne_eqb c 46 (λ h. false≢true (sym no ∙ ap is_part_char h)))

fraction_found : (f rest : List ℕ) → list_all is_digit_byte f ≡ true → ends_word rest ≡ true → fraction_at (fraction_chars f ++ rest) ≡ f
fraction_found [] rest good ends = no_point_at rest ends
fraction_found (d ∷ ds) rest good ends = digits_at-append (d ∷ ds) rest good ∙ (ap (λ (x : List ℕ). (d ∷ ds) ++ x) (no_digits_at rest ends) ∙ append-nil (d ∷ ds))

whole_ends : (f rest : List ℕ) → ends_word rest ≡ true → digits_at (fraction_chars f ++ rest) ≡ []
whole_ends [] rest ends = no_digits_at rest ends
whole_ends (d ∷ ds) rest ends = refl

found : (m : Bool) (w f rest : List ℕ) → is_number w f ≡ true → ends_word rest ≡ true → unsigned_at m (w ++ (fraction_chars f ++ rest)) ≡ Some (number m w f)
found m [] f rest good ends = absurd (false≢true good)
found m (d ∷ ds) f rest good ends =
    let both : (is_numeral (d ∷ ds) ≡ true) × (list_all is_digit_byte f ≡ true) = and_parts (is_numeral (d ∷ ds)) (list_all is_digit_byte f) good in
    let digits : list_all is_digit_byte (d ∷ ds) ≡ true = (and_parts (nat_lt 0 (length (d ∷ ds))) (list_all is_digit_byte (d ∷ ds)) both.0).1 in
    let behind : List ℕ = fraction_chars f ++ rest in
    let whole : digits_at ((d ∷ ds) ++ behind) ≡ d ∷ ds = digits_at-append (d ∷ ds) behind digits ∙ (ap (λ (x : List ℕ). (d ∷ ds) ++ x) (whole_ends f rest ends) ∙ append-nil (d ∷ ds)) in
    let left : drop (length (digits_at ((d ∷ ds) ++ behind))) ((d ∷ ds) ++ behind) ≡ behind = ap (λ (x : List ℕ). drop (length x) ((d ∷ ds) ++ behind)) whole ∙ drop-append_seam (d ∷ ds) behind in
    (λ i. number_from m (whole i) (left i)) ∙ ap (λ (x : List ℕ). Some (number m (d ∷ ds) x)) (fraction_found f rest both.1 ends)

transported : (m : Bool) (text w f rest : List ℕ) → text ≡ w ++ (fraction_chars f ++ rest) → BeginsNumber text m (number m w f) → BeginsWith (minus_chars m ++ text) (number m w f) rest
transported m text w f rest e b =
    let parts : (w ≡ b.whole) × (f ≡ b.fraction) = number_parts m w f b.whole b.fraction (ap (λ (x : Form). Some x) b.is) in
    let same : text ≡ w ++ (fraction_chars f ++ b.rest) = b.digits ∙ (λ i. sym parts.0 i ++ (fraction_chars (sym parts.1 i) ++ b.rest)) in
    let behind : fraction_chars f ++ rest ≡ fraction_chars f ++ b.rest = append_cancel_left w (fraction_chars f ++ rest) (fraction_chars f ++ b.rest) (sym e ∙ same) in
    let left : rest ≡ b.rest = append_cancel_left (fraction_chars f) rest b.rest behind in
    subst (λ (x : List ℕ). BeginsWith (minus_chars m ++ text) (number m w f) x) (sym left)
    (subst (λ (x : List ℕ). BeginsWith (minus_chars m ++ text) (number m w x) b.rest) (sym parts.1)
    (subst (λ (x : List ℕ). BeginsWith (minus_chars m ++ text) (number m x b.fraction) b.rest) (sym parts.0) b.begins))

pub number_whole : (m : Bool) (w f rest : List ℕ) → is_number w f ≡ true → ends_word rest ≡ true → BeginsWith (form_chars (number m w f) rest) (number m w f) rest
number_whole m w f rest good ends =
    subst (λ (x : List ℕ). BeginsWith x (number m w f) rest) (sym (regroup m w f rest))
    (transported m (w ++ (fraction_chars f ++ rest)) w f rest refl (number_begins m (w ++ (fraction_chars f ++ rest)) (number m w f) (found m w f rest good ends)))

-- ---- The digits of the whole part

pub record AreDigitsOf (n : ℕ) (ds : List ℕ) : Type 0 where
  pub value : digits_from 0 ds ≡ n
  pub digits : list_all is_digit_byte ds ≡ true
  pub some : 0 < length ds

digits_on : (n : ℕ) (ds : List ℕ) (d : ℕ) → digits_from n (ds ++ d ∷ []) ≡ digits_from n ds * 10 + (d - 48)
digits_on n [] d = refl
digits_on n (e ∷ ds) d = digits_on (n * 10 + (e - 48)) ds d

digit_is : (d : ℕ) → d < 10 → is_digit_byte (48 + d) ≡ true
digit_is d h = grind (arith, nat_tests)

one_digit : (n : ℕ) → n < 10 → AreDigitsOf n ((48 + n) ∷ [])
one_digit n h = record { value = omega arith; digits = and_from (is_digit_byte (48 + n)) true (digit_is n h) refl; some = omega arith }

more_digits : (n : ℕ) (ds : List ℕ) → 10 ≤ n → AreDigitsOf (n / 10) ds → AreDigitsOf n (ds ++ ((48 + n % 10) ∷ []))
more_digits n ds h a = record {
  value = digits_on 0 ds (48 + n % 10) ∙ (ap (λ (x : ℕ). x * 10 + (48 + n % 10 - 48)) a.value ∙ last);
  digits = list_all-append is_digit_byte ds ((48 + n % 10) ∷ []) ∙ and_from (list_all is_digit_byte ds) (list_all is_digit_byte ((48 + n % 10) ∷ [])) a.digits (and_from (is_digit_byte (48 + n % 10)) true (digit_is (n % 10) (mod-lt n (omega arith))) refl);
  some = omega (arith, length-append ds ((48 + n % 10) ∷ []));
}
  where
    last : n / 10 * 10 + (48 + n % 10 - 48) ≡ n
    last = omega (arith, div-add-mod' n 10)

pub decimal_digits : (n : ℕ) → n < 2 ^ 64 → AreDigitsOf n (decimal n)
decimal_digits n h = decimal_by_steps AreDigitsOf one_digit more_digits n h

-- ---- Those of the fraction

pub record ArePlacesOf (k n : ℕ) (ds : List ℕ) : Type 0 where
  pub value : digits_from 0 ds * 10 ^ (k - length ds) ≡ n
  pub digits : list_all is_digit_byte ds ≡ true
  pub few : length ds ≤ k

digits_above : (n : ℕ) (ds : List ℕ) → digits_from n ds ≡ n * 10 ^ length ds + digits_from 0 ds
digits_above n [] = omega arith
digits_above n (d ∷ ds) =
    digits_above (n * 10 + (d - 48)) ds
    ∙ (regroup_by n (d - 48) (10 ^ length ds) (digits_from 0 ds)
    ∙ ((λ i. n * sym (pow-suc 10 (length ds)) i + (0 * 10 + (d - 48)) * 10 ^ length ds + digits_from 0 ds)
    ∙ (assoc_by (n * 10 ^ suc (length ds)) ((0 * 10 + (d - 48)) * 10 ^ length ds) (digits_from 0 ds)
    ∙ ap (λ (x : ℕ). n * 10 ^ suc (length ds) + x) (sym (digits_above (0 * 10 + (d - 48)) ds)))))
  where
    regroup_by : (n e p r : ℕ) → (n * 10 + e) * p + r ≡ n * (p * 10) + (0 * 10 + e) * p + r
    regroup_by n e p r = grind arith

    assoc_by : (a b c : ℕ) → a + b + c ≡ a + (b + c)
    assoc_by a b c = omega arith

first_place : (k q r : ℕ) (ds : List ℕ) → q < 10 → ArePlacesOf k r ds → ArePlacesOf (suc k) (q * 10 ^ k + r) ((48 + q) ∷ ds)
first_place k q r ds small a = record {
  value =
      (λ i. digits_from (digit i) ds * 10 ^ left i)
      ∙ (ap (λ (x : ℕ). x * 10 ^ (k - length ds)) (digits_above q ds)
      ∙ (spread (q) (10 ^ length ds) (digits_from 0 ds) (10 ^ (k - length ds))
      ∙ (λ i. q * power i + a.value i)));
  digits = and_from (is_digit_byte (48 + q)) (list_all is_digit_byte ds) (digit_is q small) a.digits;
  few = omega (arith, a.few);
}
  where
    digit : 0 * 10 + (48 + q - 48) ≡ q
    digit = omega arith

    left : suc k - suc (length ds) ≡ k - length ds
    left = omega arith

    count : length ds + (k - length ds) ≡ k
    count = omega (arith, a.few)

    power : 10 ^ length ds * 10 ^ (k - length ds) ≡ 10 ^ k
    power = sym (pow-add 10 (length ds) (k - length ds)) ∙ ap (λ (x : ℕ). 10 ^ x) count

    spread : (q p r s : ℕ) → (q * p + r) * s ≡ q * (p * s) + r * s
    spread q p r s = grind arith

no_places : (k : ℕ) → ArePlacesOf k 0 []
no_places k = record { value = omega arith; digits = refl; few = omega arith }

pub fraction_places : (k n : ℕ) → n < 10 ^ k → ArePlacesOf k n (without_zeros (places k n))
fraction_places k zero small = subst (λ (x : List ℕ). ArePlacesOf k 0 x) (sym (no_digits k)) (no_places k)
fraction_places zero (suc m) small = absurd (omega arith)
fraction_places (suc k) (suc m) small =
    let some : 0 < suc m = omega arith in
    let digit : suc m / 10 ^ k < 10 = top_digit k (suc m) small in
    let rest : ArePlacesOf k (suc m % 10 ^ k) (without_zeros (places k (suc m % 10 ^ k))) = fraction_places k (suc m % 10 ^ k) (mod-lt (suc m) (one-le-pow k 10 (omega arith))) in
    subst (λ (x : List ℕ). ArePlacesOf (suc k) (suc m) x) (sym (first_digit k (suc m) some small))
    (subst (λ (x : ℕ). ArePlacesOf (suc k) x ((48 + suc m / 10 ^ k) ∷ without_zeros (places k (suc m % 10 ^ k)))) (div-add-mod' (suc m) (10 ^ k)) (first_place k (suc m / 10 ^ k) (suc m % 10 ^ k) (without_zeros (places k (suc m % 10 ^ k))) digit rest))
