-- The longest number at the front of a text.
use Rattle.std.proofs.Common.{ℕ, ◌≡◌, ◌+◌, ◌≤◌, ◌==◌, Bool, true, false, cond, List, [], ◌∷◌, ◌++◌, length, take, drop, Option, Some, refl, sym, ap, ◌∙◌, subst, arith, length-append, append_assoc, eqb-true}
use Rattle.std.specs.Prelude.{nat_lt}
use Rattle.std.specs.List.{list_all}
use Rattle.std.proofs.lemmas.Bool.{and_parts, and_from, cond-true, lt-ltb}
use Rattle.std.proofs.lemmas.List.{append_cancel_left, append-nil}
use Rattle.std.proofs.Math.Seq.{take-append_seam}
use Rattle.gcx_model.specs.Values.{is_digit_byte, is_numeral}
use Rattle.xq_lex.specs.Numbers.{fraction_chars, is_number, digits_at, fraction_at}
use Rattle.xq_lex.specs.Form.{Form, number}
use Rattle.xq_lex.specs.Found.{number_from, unsigned_at}

-- the digits at the front and what follows
pub record HasDigits (text digits rest : List ℕ) : Type 0 where
  pub chars : text ≡ digits ++ rest
  pub good : list_all is_digit_byte digits ≡ true

digits_step : (c : ℕ) (cs : List ℕ) (b : Bool) → is_digit_byte c ≡ b → HasDigits cs (digits_at cs) (drop (length (digits_at cs)) cs) →
    let found = cond b (c ∷ digits_at cs) [] in HasDigits (c ∷ cs) found (drop (length found) (c ∷ cs))
digits_step c cs true e h = record { chars = ap (λ x. c ∷ x) h.chars; good = and_from (is_digit_byte c) (list_all is_digit_byte (digits_at cs)) e h.good }
digits_step c cs false e h = record { chars = refl; good = refl }

pub digits_front : (text : List ℕ) → HasDigits text (digits_at text) (drop (length (digits_at text)) text)
digits_front [] = record { chars = refl; good = refl }
digits_front (c ∷ cs) = digits_step c cs (is_digit_byte c) refl (digits_front cs)

-- all digits are found, and then more
pub digits_at-append : (digits rest : List ℕ) → list_all is_digit_byte digits ≡ true → digits_at (digits ++ rest) ≡ digits ++ digits_at rest
digits_at-append [] rest good = refl
digits_at-append (d ∷ ds) rest good =
    let both : (is_digit_byte d ≡ true) × (list_all is_digit_byte ds ≡ true) = and_parts (is_digit_byte d) (list_all is_digit_byte ds) good in
    cond-true (is_digit_byte d) (d ∷ digits_at (ds ++ rest)) [] both.0 ∙ ap (λ x. d ∷ x) (digits_at-append ds rest both.1)

-- the fraction at the front and what follows
pub record HasFraction (text fraction : List ℕ) : Type 0 where
  pub rest : List ℕ
  pub chars : text ≡ fraction_chars fraction ++ rest
  pub good : list_all is_digit_byte fraction ≡ true

point_step : (c : ℕ) (cs found : List ℕ) → c ≡ 46 → HasDigits cs found (drop (length found) cs) → HasFraction (c ∷ cs) found
point_step c cs [] e h = record { rest = c ∷ cs; chars = refl; good = refl }
point_step c cs (d ∷ ds) e h = record { rest = drop (length (d ∷ ds)) cs; chars = ap (λ (x : ℕ). x ∷ cs) e ∙ ap (λ x. 46 ∷ x) h.chars; good = h.good }

fraction_step : (c : ℕ) (cs : List ℕ) (b : Bool) → (c == 46) ≡ b → HasFraction (c ∷ cs) (cond b (digits_at cs) [])
fraction_step c cs true e = point_step c cs (digits_at cs) (eqb-true c 46 e) (digits_front cs)
fraction_step c cs false e = record { rest = c ∷ cs; chars = refl; good = refl }

pub fraction_front : (text : List ℕ) → HasFraction text (fraction_at text)
fraction_front [] = record { rest = []; chars = refl; good = refl }
fraction_front (c ∷ cs) = fraction_step c cs (c == 46) refl

-- The number that is found begins the text.
pub record HasNumber (text : List ℕ) (minus : Bool) (form : Form) : Type 0 where
  pub whole : List ℕ
  pub fraction : List ℕ
  pub rest : List ℕ
  pub is : form ≡ number minus whole fraction
  pub chars : text ≡ whole ++ (fraction_chars fraction ++ rest)
  pub good : is_number whole fraction ≡ true

number_found : (minus : Bool) (text digits behind : List ℕ) (form : Form) → number_from minus digits behind ≡ Some form → HasDigits text digits behind → HasNumber text minus form
number_found minus text [] behind form e h = cc (e)
number_found minus text (d ∷ ds) behind form e h =
    let f : HasFraction behind (fraction_at behind) = fraction_front behind in
    record {
      whole = d ∷ ds;
      fraction = fraction_at behind;
      rest = f.rest;
      is = cc (e);
      chars = h.chars ∙ ap (λ (x : List ℕ). (d ∷ ds) ++ x) f.chars;
      good = and_from (is_numeral (d ∷ ds)) (list_all is_digit_byte (fraction_at behind)) (and_from (nat_lt 0 (length (d ∷ ds))) (list_all is_digit_byte (d ∷ ds)) (lt-ltb 0 (length (d ∷ ds)) (omega arith)) h.good) f.good;
    }

pub unsigned_front : (minus : Bool) (text : List ℕ) (form : Form) → unsigned_at minus text ≡ Some form → HasNumber text minus form
unsigned_front minus text form e = number_found minus text (digits_at text) (drop (length (digits_at text)) text) form e (digits_front text)

-- A number at the front is found, or a longer one.
pub record LongerNumber (minus : Bool) (whole fraction rest : List ℕ) (found : Option Form) : Type 0 where
  pub whole' : List ℕ
  pub fraction' : List ℕ
  pub tail : List ℕ
  pub is : found ≡ Some (number minus whole' fraction')
  pub chars : whole ++ (fraction_chars fraction ++ rest) ≡ whole' ++ (fraction_chars fraction' ++ tail)
  pub good : is_number whole' fraction' ≡ true
  pub short : length tail ≤ length rest
  pub same : length tail ≡ length rest → number minus whole fraction ≡ number minus whole' fraction'

no_elements : (xs : List ℕ) → length xs ≡ 0 → xs ≡ []
no_elements [] e = refl
no_elements (x ∷ xs) e = absurd (omega arith)

nothing_more : (xs ys : List ℕ) → length ys ≡ 0 → xs ++ ys ≡ xs
nothing_more xs ys e = ap (λ (y : List ℕ). xs ++ y) (no_elements ys e) ∙ append-nil xs

numeral : (d : ℕ) (ds : List ℕ) → list_all is_digit_byte (d ∷ ds) ≡ true → is_numeral (d ∷ ds) ≡ true
numeral d ds good = and_from (nat_lt 0 (length (d ∷ ds))) (list_all is_digit_byte (d ∷ ds)) (lt-ltb 0 (length (d ∷ ds)) (omega arith)) good

no_fraction_chars : (xs : List ℕ) → length (fraction_chars xs) ≡ 0 → xs ≡ []
no_fraction_chars [] e = refl
no_fraction_chars (x ∷ xs) e = absurd (omega arith)

-- without a fraction
longer_whole : (minus : Bool) (d : ℕ) (ds more rest behind fraction : List ℕ) → HasDigits ((d ∷ ds) ++ rest) (d ∷ (ds ++ more)) behind → HasFraction behind fraction →
    LongerNumber minus (d ∷ ds) [] rest (Some (number minus (d ∷ (ds ++ more)) fraction))
longer_whole minus d ds more rest behind fraction h f =
    let chars : (d ∷ ds) ++ rest ≡ (d ∷ (ds ++ more)) ++ (fraction_chars fraction ++ f.rest) = h.chars ∙ ap (λ (x : List ℕ). (d ∷ (ds ++ more)) ++ x) f.chars in
    let count : length ds + length rest ≡ length ds + length more + (length (fraction_chars fraction) + length f.rest) =
    omega (arith, ap length chars, length-append ds rest, length-append (ds ++ more) (fraction_chars fraction ++ f.rest), length-append ds more, length-append (fraction_chars fraction) f.rest) in
    record {
      whole' = d ∷ (ds ++ more);
      fraction' = fraction;
      tail = f.rest;
      is = refl;
      chars = chars;
      good = and_from (is_numeral (d ∷ (ds ++ more))) (list_all is_digit_byte fraction) (numeral d (ds ++ more) h.good) f.good;
      short = omega arith;
      same = λ e.
          let none : length more ≡ 0 = omega arith in
          let none' : length (fraction_chars fraction) ≡ 0 = omega arith in
          ap (λ (x : List ℕ). number minus (d ∷ x) []) (sym (nothing_more ds more none)) ∙ ap (λ (x : List ℕ). number minus (d ∷ (ds ++ more)) x) (sym (no_fraction_chars fraction none'));
    }

-- with one
longer_fraction : (minus : Bool) (d : ℕ) (ds : List ℕ) (f : ℕ) (fs more rest tail : List ℕ) → is_number (d ∷ ds) (f ∷ (fs ++ more)) ≡ true → rest ≡ more ++ tail →
    LongerNumber minus (d ∷ ds) (f ∷ fs) rest (Some (number minus (d ∷ ds) (f ∷ (fs ++ more))))
longer_fraction minus d ds f fs more rest tail good e = record {
  whole' = d ∷ ds;
  fraction' = f ∷ (fs ++ more);
  tail = tail;
  is = refl;
  chars = ap (λ (x : List ℕ). (d ∷ ds) ++ (46 ∷ f ∷ x)) (ap (λ (x : List ℕ). fs ++ x) e ∙ sym (append_assoc fs more tail));
  good = good;
  short = omega (arith, ap length e, length-append more tail);
  same = λ h. let none : length more ≡ 0 = omega (arith, ap length e, length-append more tail) in ap (λ (x : List ℕ). number minus (d ∷ ds) (f ∷ x)) (sym (nothing_more fs more none));
}

pub number_longer : (minus : Bool) (whole fraction rest : List ℕ) → is_number whole fraction ≡ true →
    LongerNumber minus whole fraction rest (unsigned_at minus (whole ++ (fraction_chars fraction ++ rest)))
number_longer minus [] fraction rest good = cc (good)
number_longer minus (d ∷ ds) [] rest good =
    let digits : list_all is_digit_byte (d ∷ ds) ≡ true = (and_parts (nat_lt 0 (length (d ∷ ds))) (list_all is_digit_byte (d ∷ ds)) (and_parts (is_numeral (d ∷ ds)) true good).0).1 in
    let text : List ℕ = (d ∷ ds) ++ rest in
    let same : digits_at text ≡ d ∷ (ds ++ digits_at rest) = digits_at-append (d ∷ ds) rest digits in
    let behind : List ℕ = drop (length (digits_at text)) text in
    let h : HasDigits text (d ∷ (ds ++ digits_at rest)) behind = subst (λ (x : List ℕ). HasDigits text x behind) same (digits_front text) in
    subst (λ (x : List ℕ). LongerNumber minus (d ∷ ds) [] rest (number_from minus x behind)) (sym same)
    (longer_whole minus d ds (digits_at rest) rest behind (fraction_at behind) h (fraction_front behind))
number_longer minus (d ∷ ds) (f ∷ fs) rest good =
    let both : (is_numeral (d ∷ ds) ≡ true) × (list_all is_digit_byte (f ∷ fs) ≡ true) = and_parts (is_numeral (d ∷ ds)) (list_all is_digit_byte (f ∷ fs)) good in
    let digits : list_all is_digit_byte (d ∷ ds) ≡ true = (and_parts (nat_lt 0 (length (d ∷ ds))) (list_all is_digit_byte (d ∷ ds)) both.0).1 in
    let point : List ℕ = 46 ∷ f ∷ (fs ++ rest) in
    let text : List ℕ = (d ∷ ds) ++ point in
    let same : digits_at text ≡ d ∷ ds = digits_at-append (d ∷ ds) point digits ∙ append-nil (d ∷ ds) in
    let behind : List ℕ = drop (length (digits_at text)) text in
    let h : HasDigits text (d ∷ ds) behind = subst (λ (x : List ℕ). HasDigits text x behind) same (digits_front text) in
    let left : behind ≡ point = sym (append_cancel_left (d ∷ ds) point behind h.chars) in
    let fraction : fraction_at point ≡ f ∷ (fs ++ digits_at rest) = digits_at-append (f ∷ fs) rest both.1 in
    let all : list_all is_digit_byte (f ∷ (fs ++ digits_at rest)) ≡ true = subst (λ (x : List ℕ). list_all is_digit_byte x ≡ true) fraction (fraction_front point).good in
    subst (λ (x : List ℕ). LongerNumber minus (d ∷ ds) (f ∷ fs) rest (number_from minus x behind)) (sym same)
    (subst (λ (x : List ℕ). LongerNumber minus (d ∷ ds) (f ∷ fs) rest (Some (number minus (d ∷ ds) (fraction_at x)))) (sym left)
    (subst (λ (x : List ℕ). LongerNumber minus (d ∷ ds) (f ∷ fs) rest (Some (number minus (d ∷ ds) x))) (sym fraction)
    (longer_fraction minus d ds f fs (digits_at rest) rest (drop (length (digits_at rest)) rest)
    (and_from (is_numeral (d ∷ ds)) (list_all is_digit_byte (f ∷ (fs ++ digits_at rest))) both.0 all) (digits_front rest).chars)))

-- the digits are as many as were counted
pub counted_digits : (text : List ℕ) (len : ℕ) → len ≡ length (digits_at text) → take len text ≡ digits_at text
counted_digits text len e =
    let front : take (length (digits_at text)) (digits_at text ++ drop (length (digits_at text)) text) ≡ digits_at text = take-append_seam (digits_at text) (drop (length (digits_at text)) text) in
    ap (λ n. take n text) e ∙ (ap (λ (x : List ℕ). take (length (digits_at text)) x) (digits_front text).chars ∙ front)

-- what is read behind a point
pub fraction_read : (text behind digits rest : List ℕ) (first : ℕ) → text ≡ first ∷ behind → first ≡ 46 → digits ≡ digits_at behind → rest ≡ drop (length (digits_at behind)) behind → (length digits == 0) ≡ false →
    text ≡ fraction_chars digits ++ rest
fraction_read text behind [] rest first e p d r some = cc (some)
fraction_read text behind (x ∷ xs) rest first e p d r some =
    let all : behind ≡ (x ∷ xs) ++ rest = (digits_front behind).chars ∙ (λ i. sym d i ++ sym r i) in
    e ∙ (ap (λ (c : ℕ). c ∷ behind) p ∙ ap (λ (y : List ℕ). 46 ∷ y) all)
