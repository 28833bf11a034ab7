-- Numbers of few digits.
use Rattle.std.proofs.Common.{◌≡◌, ◌<◌, ◌≤◌, ◌+◌, ◌-◌, ◌*◌, ◌^◌, ℕ, true, false, nat_lt, List, [], ◌∷◌, ◌++◌, refl, sym, ap, ◌∙◌, arith, length, take, get_or, Some}
use Rattle.std.specs.Prelude.{ℤ, pos, ◌*ℤ◌}
use Rattle.std.specs.List.{list_all}
use Rattle.std.proofs.Math.Nat.{pow-le-pow_right}
use Rattle.std.proofs.lemmas.Bool.{and_from}
use Rattle.std.proofs.lemmas.Bool.Decides.{nat_tests}
use Rattle.std.proofs.lemmas.Int.{ints}
use Rattle.std.proofs.lemmas.List.{append-nil, take_more, length-take-le}
use Rattle.std.proofs.lemmas.List.Folds.{list_all-append}
use Rattle.std.specs.Ordering.{int_cmp}
use Rattle.gcx_model.specs.Values.{digits_from, is_digit_byte, is_numeral, number, decimal_number, against, Bare, DigitsAlone}
use Rattle.xq_values.specs.Wholes.{IsWhole}
use Rattle.xq_values.proofs.Digits.{digits_from-append, digits_from-<}
use Rattle.xq_values.proofs.Grammar.{number-spelled}

-- the digits so far
pub record Front (ds : List ℕ) (n : ℕ) : Type 0 where
  pub digits : list_all is_digit_byte ds ≡ true
  pub value : n ≡ digits_from 0 ds

-- one digit more
pub front_more : (text : List ℕ) (i n : ℕ) → i < length text → Front (take i text) n → is_digit_byte (get_or text i 0) ≡ true → Front (take (i + 1) text) (n * 10 + (get_or text i 0 - 48))
front_more text i n within front digit =
    let next = take_more text i 0 within in
    record {
      digits = ap (list_all is_digit_byte) next ∙ list_all-append is_digit_byte (take i text) (get_or text i 0 ∷ [])
          ∙ and_from (list_all is_digit_byte (take i text)) (list_all is_digit_byte (get_or text i 0 ∷ [])) front.digits (and_from (is_digit_byte (get_or text i 0)) true digit refl);
      value = ap (λ m. m * 10 + (get_or text i 0 - 48)) front.value ∙ sym (digits_from-append 0 (take i text) (get_or text i 0 ∷ [])) ∙ ap (digits_from 0) (sym next);
    }

below_ten : (ds : List ℕ) (n : ℕ) → Front ds n → length ds ≤ 18 → n < 10 ^ 18
below_ten ds n front few =
    let below : digits_from 0 ds < 1 * 10 ^ length ds = digits_from-< 0 ds front.digits in
    let most : 10 ^ length ds ≤ 10 ^ 18 = pow-le-pow_right (omega arith) few in
    let value = front.value in
    omega (arith, below, most, value)

-- as far as 18 digits a number is below 10^18
pub front_below : (text : List ℕ) (i n : ℕ) → i ≤ length text → i ≤ 18 → Front (take i text) n → n < 10 ^ 18
front_below text i n within few front = below_ten (take i text) n front (omega (arith, length-take-le i text within))

-- the number as which such a text counts
pub number_of_whole : (text : List ℕ) (n : ℕ) → IsWhole text n → number text ≡ Some (decimal_number false text [])
number_of_whole text n is =
    let some : nat_lt 0 (length text) ≡ true = (let h = is.some in grind (arith, nat_tests)) in
    number-spelled text (decimal_number false text []) (record {
      front = [];
      sign = Bare;
      numeral = DigitsAlone text;
      back = [];
      bytes = sym (append-nil text);
      white_front = refl;
      white_back = refl;
      digits = ap is_numeral (append-nil text) ∙ and_from (nat_lt 0 (length text)) (list_all is_digit_byte text) some is.digits;
      value = refl;
    })

-- and how it compares
pub against_whole : (text : List ℕ) (n : ℕ) (l : ℤ) → IsWhole text n → int_cmp (pos n *ℤ pos (10 ^ 18)) l ≡ against (decimal_number false text []) l
against_whole text n l is =
    let all : n ≡ digits_from 0 (text ++ []) = is.value ∙ ap (digits_from 0) (sym (append-nil text)) in
    let one : l ≡ l *ℤ pos (10 ^ 0) = omega (arith, ints) in
    (λ i. int_cmp (pos (all i) *ℤ pos (10 ^ 18)) (one i))
