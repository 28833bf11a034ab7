-- The references here are those of the grammar of documents.
use Rattle.std.proofs.Common.{◌≡◌, ◌++◌, ◌∷◌, [], ◌+◌, ◌*◌, ◌<◌, ℕ, List, length, Bool, true, refl, sym, ap, subst, ◌∙◌, append-nil, append_assoc, arith, length-append}
use Rattle.std.specs.Prelude.{fold}
use Rattle.std.specs.Char.{is_digit, digit_value}
use Rattle.std.proofs.lemmas.Bool.{and_parts, and_from, true≢false}
use Rattle.std.proofs.lemmas.Bool.Decides.{nat_tests}
use Rattle.std.proofs.lemmas.List.Folds.{list_all-append}
use Rattle.std.proofs.lemmas.List.Sums.{fold-append}
use Rattle.gcx_base.specs.Characters.{is_char}
use Rattle.gcx_model.specs.References as grammar
use Rattle.gcx_model.specs.References.{Digits, no_digit, digit, digits_spelling, value_in, AreDigits, is_decimal, is_hexadecimal, worth, Reference, reference_spelling, reference_char, IsReference}
use Rattle.doc_chars.specs.Reference.{radix_value, all_digits, IsNumber, Refers, lt, gt, amp, apos, quot, by_decimal, by_hexadecimal}
use Rattle.doc_chars.specs.Spelled.{SpellsReference, ReferencesAgree}

-- digits of the grammar have the same value
decimal_is : (c : ℕ) → is_digit c 10 ≡ true → is_decimal c ≡ true
decimal_is c h = grind (arith, nat_tests)

decimal_worth : (c : ℕ) → is_digit c 10 ≡ true → worth c ≡ digit_value c
decimal_worth c h = grind (arith, nat_tests)

is_decimal_digit : (c : ℕ) → is_decimal c ≡ true → is_digit c 10 ≡ true
is_decimal_digit c h = grind (arith, nat_tests)

hexadecimal_is : (c : ℕ) → is_digit c 16 ≡ true → is_hexadecimal c ≡ true
hexadecimal_is c h = grind (arith, nat_tests)

hexadecimal_worth : (c : ℕ) → is_digit c 16 ≡ true → worth c ≡ digit_value c
hexadecimal_worth c h = grind (arith, nat_tests)

is_hexadecimal_digit : (c : ℕ) → is_hexadecimal c ≡ true → is_digit c 16 ≡ true
is_hexadecimal_digit c h = grind (arith, nat_tests)

-- a list of digits, built at its end
abbrev as_digits : Digits → List ℕ → Digits
as_digits d [] = d
as_digits d (c ∷ cs) = as_digits (digit d c) cs

as_spelled : (d : Digits) (cs : List ℕ) → digits_spelling (as_digits d cs) ≡ digits_spelling d ++ cs
as_spelled d [] = sym (append-nil (digits_spelling d))
as_spelled d (c ∷ cs) = as_spelled (digit d c) cs ∙ append_assoc (digits_spelling d) (c ∷ []) cs

module _ (radix : ℕ) (is_one : ℕ → Bool) (one : (c : ℕ) → is_digit c radix ≡ true → is_one c ≡ true) (counts : (c : ℕ) → is_digit c radix ≡ true → worth c ≡ digit_value c) (is : (c : ℕ) → is_one c ≡ true → is_digit c radix ≡ true) where
  as_are : (d : Digits) (cs : List ℕ) → AreDigits is_one d → all_digits radix cs ≡ true → AreDigits is_one (as_digits d cs)
  as_are d [] g h = g
  as_are d (c ∷ cs) g h = let both = and_parts (is_digit c radix) (all_digits radix cs) h in as_are (digit d c) cs (g, one c both.0) both.1

  as_value : (d : Digits) (cs : List ℕ) → all_digits radix cs ≡ true → value_in radix (as_digits d cs) ≡ fold (λ value digit. value * radix + digit_value digit) (value_in radix d) cs
  as_value d [] h = refl
  as_value d (c ∷ cs) h =
      let both = and_parts (is_digit c radix) (all_digits radix cs) h in
      as_value (digit d c) cs both.1 ∙ ap (λ v. fold (λ value digit. value * radix + digit_value digit) (value_in radix d * radix + v) cs) (counts c both.0)

  all_are : (ds : Digits) → AreDigits is_one ds → all_digits radix (digits_spelling ds) ≡ true
  all_are no_digit g = refl
  all_are (digit ds c) g = list_all-append (λ d. is_digit d radix) (digits_spelling ds) (c ∷ []) ∙ and_from (all_digits radix (digits_spelling ds)) _ (all_are ds g.0) (and_from (is_digit c radix) true (is c g.1) refl)

  value_same : (ds : Digits) → AreDigits is_one ds → radix_value radix (digits_spelling ds) ≡ value_in radix ds
  value_same no_digit g = refl
  value_same (digit ds c) g =
      fold-append (λ value digit. value * radix + digit_value digit) 0 (digits_spelling ds) (c ∷ [])
      ∙ ap (λ v. v * radix + digit_value c) (value_same ds g.0) ∙ ap (λ v. value_in radix ds * radix + v) (sym (counts c (is c g.1)))

  number_of : (ds : Digits) (c : ℕ) → AreDigits is_one ds → is_char (value_in radix ds) ≡ true → value_in radix ds ≡ c → IsNumber radix (digits_spelling ds) c
  number_of ds c g h e = record { some = some ds h; are = all_are ds g; value = value_same ds g ∙ e; char = subst (λ v. is_char v ≡ true) e h }
    where
      some : (ds : Digits) → is_char (value_in radix ds) ≡ true → 0 < length (digits_spelling ds)
      some no_digit h = absurd (true≢false (sym h))
      some (digit ds c) h = omega (arith, length-append (digits_spelling ds) (c ∷ []))

  digits_good : (digits : List ℕ) (c : ℕ) → IsNumber radix digits c → AreDigits is_one (as_digits no_digit digits) × (value_in radix (as_digits no_digit digits) ≡ c)
  digits_good digits c n = (as_are no_digit digits tt n.are, as_value no_digit digits n.are ∙ n.value)

char_there : (v c : ℕ) → v ≡ c → is_char c ≡ true → is_char v ≡ true
char_there v c e h = subst (λ w. is_char w ≡ true) (sym e) h

spells : (text : List ℕ) (c : ℕ) → Refers text c → SpellsReference text c
spells text c (lt e v) = record { reference = grammar.named grammar.less_than; good = tt; spelled = ap (λ l. 38 ∷ l) (sym e); stands_for = sym v }
spells text c (gt e v) = record { reference = grammar.named grammar.greater_than; good = tt; spelled = ap (λ l. 38 ∷ l) (sym e); stands_for = sym v }
spells text c (amp e v) = record { reference = grammar.named grammar.ampersand; good = tt; spelled = ap (λ l. 38 ∷ l) (sym e); stands_for = sym v }
spells text c (apos e v) = record { reference = grammar.named grammar.apostrophe; good = tt; spelled = ap (λ l. 38 ∷ l) (sym e); stands_for = sym v }
spells text c (quot e v) = record { reference = grammar.named grammar.quotation; good = tt; spelled = ap (λ l. 38 ∷ l) (sym e); stands_for = sym v }
spells text c (by_decimal digits n e) =
    let g = digits_good 10 is_decimal decimal_is decimal_worth is_decimal_digit digits c n in
    record {
      reference = grammar.decimal_reference (as_digits no_digit digits);
      good = (g.0, char_there _ c g.1 n.char);
      spelled = ap (λ l. 38 ∷ (35 ∷ (l ++ 59 ∷ []))) (as_spelled no_digit digits) ∙ ap (λ l. 38 ∷ l) (sym e);
      stands_for = g.1;
    }
spells text c (by_hexadecimal digits n e) =
    let g = digits_good 16 is_hexadecimal hexadecimal_is hexadecimal_worth is_hexadecimal_digit digits c n in
    record {
      reference = grammar.hexadecimal_reference (as_digits no_digit digits);
      good = (g.0, char_there _ c g.1 n.char);
      spelled = ap (λ l. 38 ∷ (35 ∷ (120 ∷ (l ++ 59 ∷ [])))) (as_spelled no_digit digits) ∙ ap (λ l. 38 ∷ l) (sym e);
      stands_for = g.1;
    }

-- the text behind `&`
behind : (a b : List ℕ) → 38 ∷ a ≡ 38 ∷ b → b ≡ a
behind a b e = let same : a ≡ b = cc in sym same

refers_by : (text : List ℕ) (c : ℕ) (r : Reference) → IsReference r → reference_spelling r ≡ 38 ∷ text → reference_char r ≡ c → Refers text c
refers_by text c (grammar.named grammar.less_than) g e v = lt (behind _ text e) (sym v)
refers_by text c (grammar.named grammar.greater_than) g e v = gt (behind _ text e) (sym v)
refers_by text c (grammar.named grammar.ampersand) g e v = amp (behind _ text e) (sym v)
refers_by text c (grammar.named grammar.apostrophe) g e v = apos (behind _ text e) (sym v)
refers_by text c (grammar.named grammar.quotation) g e v = quot (behind _ text e) (sym v)
refers_by text c (grammar.decimal_reference ds) g e v = by_decimal (digits_spelling ds) (number_of 10 is_decimal decimal_is decimal_worth is_decimal_digit ds c g.0 g.1 v) (behind _ text e)
refers_by text c (grammar.hexadecimal_reference ds) g e v = by_hexadecimal (digits_spelling ds) (number_of 16 is_hexadecimal hexadecimal_is hexadecimal_worth is_hexadecimal_digit ds c g.0 g.1 v) (behind _ text e)

pub references_agree : ReferencesAgree
references_agree text c = (spells text c, λ s. refers_by text c s.reference s.good s.spelled s.stands_for)
