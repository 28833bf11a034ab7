-- What std reads of a text without a sign and leading zeros is the number of this text, if there is one.
use Rattle.std.proofs.Common.{◌≡◌, ℕ, zero, suc, ◌<◌, ◌^◌, ◌≢◌, true, false, List, [], ◌∷◌, length, get_or, Result, Ok, Err, IsUtf8, sym, ◌∙◌, ap, subst, arith}
use Rattle.std.specs.Fmt.{decimal}
use Rattle.std.specs.Str.Parse.{digits_value, AllDigits, ParsesUnsigned}
use Rattle.std.specs.Result.{result_ok}
use Rattle.std.proofs.lemmas.Bool.Decides.{nat_tests}
use Rattle.std.proofs.lemmas.Str.{IsUtf8-from_ascii}
use Rattle.std.proofs.lemmas.Str.Parse.{IsNumeralModel, numerals_by_value, tells_digits, parse_plain}
use Rattle.std.proofs.lemmas.Fmt.{decimal_digit, first_decimal, IsAscii-decimal, decimal-digits_value, decimal_injective, parse-decimal}
use Rattle.gcx_base.specs.declared.ids.Role.{Role}
use Rattle.buf_trace.specs.Reading.{may_begin, Reads}

own : IsNumeralModel (AllDigits 10) (digits_value 10)
own = numerals_by_value _ tells_digits

record Begins (text : List ℕ) : Type 0 where
  signless : get_or text 0 0 ≢ 43
  zero_alone : get_or text 0 0 ≡ 48 → length text ≡ 1

begins : (text : List ℕ) → may_begin text ≡ true → Begins text
begins [] h = record { signless = λ e. omega arith; zero_alone = λ e. absurd (omega arith) }
begins (c ∷ cs) h = record { signless = λ e. grind (arith, nat_tests); zero_alone = λ e. grind (arith, nat_tests) }

pub begins_not : (text : List ℕ) → may_begin text ≡ false → (n : ℕ) → n < 2 ^ 64 → decimal n ≡ text → ⊥
begins_not text h zero l e = let one : may_begin text ≡ true = ap may_begin (sym e ∙ decimal_digit 0 (omega arith)) in cc
begins_not [] h (suc n) l e = cc
begins_not (c ∷ cs) h (suc n) l e =
    let high : 48 < c = subst (λ (z : List ℕ). 48 < get_or z 0 0) e (first_decimal (suc n) (omega arith) l) in
    grind (arith, nat_tests)

pub utf8_not : (text : List ℕ) → (IsUtf8 text → ⊥) → (n : ℕ) → n < 2 ^ 64 → decimal n ≡ text → ⊥
utf8_not text never n l e = never (subst IsUtf8 e (IsUtf8-from_ascii (decimal n) (IsAscii-decimal n l)))

module _ {E : Type 0} where
  pub number_read : (text : List ℕ) (r : Result ℕ E) → may_begin text ≡ true → ParsesUnsigned 64 10 text r → Reads (λ n. n < 2 ^ 64) decimal text (result_ok r)
  number_read text (Ok n) h p =
      let b = begins text h in
      let q = parse_plain own {E = E} 64 text (Ok n) p b.signless in
      let same : n ≡ digits_value 10 text = q.1 in
      (subst (λ (z : ℕ). z < 2 ^ 64) (sym same) q.0.2, ap decimal same ∙ decimal-digits_value own text q.0.0 q.0.1 b.zero_alone q.0.2)
  number_read text (Err e) h p = λ n l same. let ok : Err e ≡ Ok n = parse-decimal {E = E} 64 n text (Err e) l l (sym same) p in cc

-- a number of 32 bits has the text of no greater one
pub role_not : (text : List ℕ) (number : ℕ) → number < 2 ^ 64 → decimal number ≡ text → (number < 2 ^ 32 → ⊥) → (role : Role) → role.0 < 2 ^ 32 → decimal role.0 ≡ text → ⊥
role_not text number l e never role s f =
    let same : role.0 ≡ number = decimal_injective role.0 number (omega arith) l (f ∙ sym e) in
    never (omega arith)
