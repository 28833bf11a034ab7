-- A value counts as a number exactly where the grammar spells it, and as the number that is spelled.
use Rattle.std.proofs.Common.{◌≡◌, ◌<◌, ◌+◌, ℕ, suc, Bool, true, false, not, ◌&&◌, ◌||◌, ◌==◌, List, [], ◌∷◌, ◌++◌, refl, sym, ap, ◌∙◌, cond, arith, length, length-append, ◌≤◌, drop, Some, None, nat_lt}
use Rattle.std.specs.Prelude.{reverse}
use Rattle.std.specs.List.{list_all, position_or_len}
use Rattle.std.proofs.lemmas.List.{append-nil, reverse-append, reverse-reverse, length-reverse}
use Rattle.std.proofs.lemmas.List.Folds.{list_all-append}
use Rattle.std.proofs.lemmas.List.Sums.{take_while-cons}
use Rattle.std.proofs.lemmas.Option.{cond_some}
use Rattle.std.proofs.lemmas.Bool.{and_from, and_parts}
use Rattle.std.proofs.lemmas.Bool.Decides.{nat_tests}
use Rattle.gcx_base.specs.Characters.{is_white}
use Rattle.gcx_model.specs.Values.{is_digit_byte, is_point, without_front, without_back, trimmed, is_negative, without_sign, whole_of, fraction_of, is_numeral, Decimal, decimal_number, decimal_of, number, Sign, Bare, Plus, Minus, sign_bytes, is_minus, Numeral, DigitsAlone, Pointed, numeral_bytes, before_point, behind_point, CountsAs}
use Rattle.xq_values.proofs.Digits.{is_digit-≤}

-- ---- from a value to its parts

record Front (v rest : List ℕ) : Type 0 where
  white : List ℕ
  bytes : v ≡ white ++ rest
  all : list_all is_white white ≡ true

front_of : (v : List ℕ) → Front v (without_front v)
front_of [] = record { white = []; bytes = refl; all = refl }
front_of (c ∷ cs) = go (is_white c) refl (front_of cs)
  where
    go : (b : Bool) → is_white c ≡ b → Front cs (without_front cs) → Front (c ∷ cs) (cond b (without_front cs) (c ∷ cs))
    go true is f = record { white = c ∷ f.white; bytes = ap (λ xs. c ∷ xs) f.bytes; all = ap (λ b. b && list_all is_white f.white) is ∙ f.all }
    go false is f = record { white = []; bytes = refl; all = refl }

reverse-∷ : (x : ℕ) (xs : List ℕ) → reverse (x ∷ xs) ≡ reverse xs ++ x ∷ []
reverse-∷ x xs = reverse-append (x ∷ []) xs

all-append : (p : ℕ → Bool) (xs ys : List ℕ) → list_all p xs ≡ true → list_all p ys ≡ true → list_all p (xs ++ ys) ≡ true
all-append p xs ys h k = list_all-append p xs ys ∙ and_from (list_all p xs) (list_all p ys) h k

all-reverse : (p : ℕ → Bool) (xs : List ℕ) → list_all p xs ≡ true → list_all p (reverse xs) ≡ true
all-reverse p [] all = refl
all-reverse p (x ∷ xs) all =
    let parts : (p x ≡ true) × (list_all p xs ≡ true) = and_parts (p x) (list_all p xs) all in
    ap (list_all p) (reverse-∷ x xs) ∙ all-append p (reverse xs) (x ∷ []) (all-reverse p xs parts.1) (and_from (p x) true parts.0 refl)

record Back (v rest : List ℕ) : Type 0 where
  white : List ℕ
  bytes : v ≡ rest ++ white
  all : list_all is_white white ≡ true

back_of : (v : List ℕ) → Back v (without_back v)
back_of v =
    let f : Front (reverse v) (without_front (reverse v)) = front_of (reverse v) in
    record {
      white = reverse f.white;
      bytes = sym (reverse-reverse v) ∙ ap reverse f.bytes ∙ reverse-append f.white (without_front (reverse v));
      all = all-reverse is_white f.white f.all;
    }

abbrev is_sign : ℕ → Bool
is_sign c = (c == 43) || (c == 45)

record Signed (t : List ℕ) : Type 0 where
  sign : Sign
  bytes : t ≡ sign_bytes sign ++ without_sign t
  minus : is_negative t ≡ is_minus sign

signed_of : (t : List ℕ) → Signed t
signed_of [] = record { sign = Bare; bytes = refl; minus = refl }
signed_of (c ∷ cs) = go (c == 43) (c == 45) refl refl
  where
    taken : (n : ℕ) → c ≡ n → is_sign c ≡ true → c ∷ cs ≡ n ∷ cond (is_sign c) cs (c ∷ cs)
    taken n same sign = ap (λ m. m ∷ cs) same ∙ ap (λ b. n ∷ cond b cs (c ∷ cs)) (sym sign)

    left : is_sign c ≡ false → c ∷ cs ≡ cond (is_sign c) cs (c ∷ cs)
    left sign = ap (λ b. cond b cs (c ∷ cs)) (sym sign)

    go : (p m : Bool) → (c == 43) ≡ p → (c == 45) ≡ m → Signed (c ∷ cs)
    go true true plus minus = absurd (grind (arith, nat_tests))
    go true false plus minus = record { sign = Plus; bytes = taken 43 (grind (arith, nat_tests)) (ap (λ b. b || (c == 45)) plus); minus = minus }
    go false true plus minus = record { sign = Minus; bytes = taken 45 (grind (arith, nat_tests)) (ap (λ b. (c == 43) || b) minus ∙ ap (λ b. b || true) plus); minus = minus }
    go false false plus minus = record { sign = Bare; bytes = left (ap (λ b. (c == 43) || b) minus ∙ ap (λ b. b || false) plus); minus = minus }

-- ---- the point

before-∷ : (c : ℕ) (cs : List ℕ) → whole_of (c ∷ cs) ≡ cond (not (is_point c)) (c ∷ whole_of cs) []
before-∷ c cs = take_while-cons (λ x. not (is_point x)) c cs

after-∷ : (c : ℕ) (cs : List ℕ) (b : Bool) → is_point c ≡ b → fraction_of (c ∷ cs) ≡ cond b cs (fraction_of cs)
after-∷ c cs true is = ap (λ b. drop (cond (not b) (1 + position_or_len is_point cs) 0 + 1) (c ∷ cs)) is
after-∷ c cs false is =
    ap (λ b. drop (cond (not b) (1 + position_or_len is_point cs) 0 + 1) (c ∷ cs)) is
    ∙ (let next : 1 + position_or_len is_point cs + 1 ≡ suc (position_or_len is_point cs + 1) = omega arith in ap (λ n. drop n (c ∷ cs)) next)

record Parted (u : List ℕ) : Type 0 where
  numeral : Numeral
  bytes : u ≡ numeral_bytes numeral
  before : whole_of u ≡ before_point numeral
  behind : fraction_of u ≡ behind_point numeral

parted_of : (u : List ℕ) → Parted u
parted_of [] = record { numeral = DigitsAlone []; bytes = refl; before = refl; behind = refl }
parted_of (c ∷ cs) = go (is_point c) refl (parted_of cs)
  where
    at : (b : Bool) → is_point c ≡ b → whole_of (c ∷ cs) ≡ cond (not b) (c ∷ whole_of cs) []
    at b is = before-∷ c cs ∙ ap (λ a. cond (not a) (c ∷ whole_of cs) []) is

    on : (n : Numeral) → is_point c ≡ false → cs ≡ numeral_bytes n → whole_of cs ≡ before_point n → fraction_of cs ≡ behind_point n → Parted (c ∷ cs)
    on (DigitsAlone digits) is bytes before behind = record {
      numeral = DigitsAlone (c ∷ digits);
      bytes = ap (λ xs. c ∷ xs) bytes;
      before = at false is ∙ ap (λ xs. c ∷ xs) before;
      behind = after-∷ c cs false is ∙ behind;
    }
    on (Pointed b f) is bytes before behind = record {
      numeral = Pointed (c ∷ b) f;
      bytes = ap (λ xs. c ∷ xs) bytes;
      before = at false is ∙ ap (λ xs. c ∷ xs) before;
      behind = after-∷ c cs false is ∙ behind;
    }

    go : (b : Bool) → is_point c ≡ b → Parted cs → Parted (c ∷ cs)
    go true is rest = record {
      numeral = Pointed [] cs;
      bytes = let point : c ≡ 46 = grind (arith, nat_tests) in ap (λ n. n ∷ cs) point;
      before = at true is;
      behind = after-∷ c cs true is;
    }
    go false is rest = on rest.numeral is rest.bytes rest.before rest.behind

-- ---- a number is spelled

pub counts_as : (v : List ℕ) (d : Decimal) → number v ≡ Some d → CountsAs v d
unfolding number
counts_as v d is =
    let f : Front v (without_front v) = front_of v in
    let b : Back (without_front v) (trimmed v) = back_of (without_front v) in
    let s : Signed (trimmed v) = signed_of (trimmed v) in
    let n : Parted (without_sign (trimmed v)) = parted_of (without_sign (trimmed v)) in
    let some = cond_some _ _ _ is in
    record {
      front = f.white;
      sign = s.sign;
      numeral = n.numeral;
      back = b.white;
      bytes = f.bytes ∙ ap (λ xs. f.white ++ xs) (b.bytes ∙ ap (λ xs. xs ++ b.white) (s.bytes ∙ ap (λ xs. sign_bytes s.sign ++ xs) n.bytes));
      white_front = f.all;
      white_back = b.all;
      digits = (λ i. is_numeral (sym n.before i ++ sym n.behind i)) ∙ some.0;
      value = sym some.1 ∙ (λ i. decimal_number (s.minus i) (n.before i) (n.behind i));
    }

-- ---- what is spelled is a number

abbrev is_solid : ℕ → Bool
is_solid c = not (is_white c)

digit_solid : (c : ℕ) → is_digit_byte c ≡ true → is_solid c ≡ true
digit_solid c is = let ends : (48 ≤ c) × (c ≤ 57) = is_digit-≤ c is in grind (arith, nat_tests)

digits_solid : (ds : List ℕ) → list_all is_digit_byte ds ≡ true → list_all is_solid ds ≡ true
digits_solid [] all = refl
digits_solid (d ∷ ds) all =
    let parts : (is_digit_byte d ≡ true) × (list_all is_digit_byte ds ≡ true) = and_parts (is_digit_byte d) (list_all is_digit_byte ds) all in
    and_from (is_solid d) (list_all is_solid ds) (digit_solid d parts.0) (digits_solid ds parts.1)

front-white : (ws xs : List ℕ) → list_all is_white ws ≡ true → without_front (ws ++ xs) ≡ without_front xs
front-white [] xs all = refl
front-white (w ∷ ws) xs all =
    let parts : (is_white w ≡ true) × (list_all is_white ws ≡ true) = and_parts (is_white w) (list_all is_white ws) all in
    ap (λ b. cond b (without_front (ws ++ xs)) (w ∷ (ws ++ xs))) parts.0 ∙ front-white ws xs parts.1

front-solid : (t xs : List ℕ) → list_all is_solid t ≡ true → 0 < length t → without_front (t ++ xs) ≡ t ++ xs
front-solid [] xs all some = absurd (omega arith)
front-solid (c ∷ t) xs all some =
    let solid : is_white c ≡ false = not_true (is_white c) (and_parts (is_solid c) (list_all is_solid t) all).0 in
    ap (λ b. cond b (without_front (t ++ xs)) (c ∷ (t ++ xs))) solid
  where
    not_true : (b : Bool) → not b ≡ true → b ≡ false
    not_true true e = cc
    not_true false e = refl

trimmed-spelled : (front t back : List ℕ) → list_all is_white front ≡ true → list_all is_white back ≡ true → list_all is_solid t ≡ true → 0 < length t
    → trimmed (front ++ (t ++ back)) ≡ t
trimmed-spelled front t back white_front white_back solid some =
    ap without_back (front-white front (t ++ back) white_front ∙ front-solid t back solid some)
    ∙ ap (λ xs. reverse (without_front xs)) (reverse-append t back)
    ∙ ap reverse (front-white (reverse back) (reverse t) (all-reverse is_white back white_back))
    ∙ ap reverse turned
    ∙ reverse-reverse t
  where
    turned : without_front (reverse t) ≡ reverse t
    turned = ap without_front (sym (append-nil (reverse t)))
        ∙ front-solid (reverse t) [] (all-reverse is_solid t solid) (omega (arith, length-reverse t, some))
        ∙ append-nil (reverse t)

digit_no_point : (c : ℕ) → is_digit_byte c ≡ true → is_point c ≡ false
digit_no_point c is = let ends : (48 ≤ c) × (c ≤ 57) = is_digit-≤ c is in grind (arith, nat_tests)

digit_no_sign : (c : ℕ) → is_digit_byte c ≡ true → ((c == 43) ≡ false) × ((c == 45) ≡ false)
digit_no_sign c is = let ends : (48 ≤ c) × (c ≤ 57) = is_digit-≤ c is in (grind (arith, nat_tests), grind (arith, nat_tests))

all_digits : (ds : List ℕ) → is_numeral ds ≡ true → list_all is_digit_byte ds ≡ true
all_digits ds is = (and_parts (nat_lt 0 (length ds)) (list_all is_digit_byte ds) is).1

some_digits : (ds : List ℕ) → is_numeral ds ≡ true → 0 < length ds
some_digits [] is = cc
some_digits (d ∷ ds) is = omega arith

-- a numeral begins with no sign
record NoSign (u : List ℕ) : Type 0 where
  unsigned : without_sign u ≡ u
  plain : is_negative u ≡ false

digit_first : (d : ℕ) (ds : List ℕ) → is_digit_byte d ≡ true → NoSign (d ∷ ds)
digit_first d ds is =
    let differs : ((d == 43) ≡ false) × ((d == 45) ≡ false) = digit_no_sign d is in
    record {
      unsigned = ap (λ b. cond (b || (d == 45)) ds (d ∷ ds)) differs.0 ∙ ap (λ b. cond (false || b) ds (d ∷ ds)) differs.1;
      plain = differs.1;
    }

no_sign : (n : Numeral) → is_numeral (before_point n ++ behind_point n) ≡ true → NoSign (numeral_bytes n)
no_sign (DigitsAlone []) digits = absurd (omega (arith, some_digits [] digits))
no_sign (DigitsAlone (d ∷ ds)) digits = digit_first d ds (and_parts (is_digit_byte d) (list_all is_digit_byte (ds ++ [])) (all_digits (d ∷ (ds ++ [])) digits)).0
no_sign (Pointed [] behind) digits = record { unsigned = refl; plain = refl }
no_sign (Pointed (d ∷ ds) behind) digits = digit_first d (ds ++ 46 ∷ behind) (and_parts (is_digit_byte d) (list_all is_digit_byte (ds ++ behind)) (all_digits (d ∷ (ds ++ behind)) digits)).0

without_sign-spelled : (s : Sign) (u : List ℕ) → NoSign u → without_sign (sign_bytes s ++ u) ≡ u
without_sign-spelled Bare u none = none.unsigned
without_sign-spelled Plus u none = refl
without_sign-spelled Minus u none = refl

is_negative-spelled : (s : Sign) (u : List ℕ) → NoSign u → is_negative (sign_bytes s ++ u) ≡ is_minus s
is_negative-spelled Bare u none = none.plain
is_negative-spelled Plus u none = refl
is_negative-spelled Minus u none = refl

-- digits before a point, or before the end
record Split (ds xs : List ℕ) : Type 0 where
  whole : whole_of (ds ++ xs) ≡ ds ++ whole_of xs
  fraction : fraction_of (ds ++ xs) ≡ fraction_of xs

split_digits : (ds xs : List ℕ) → list_all is_digit_byte ds ≡ true → Split ds xs
split_digits [] xs all = record { whole = refl; fraction = refl }
split_digits (d ∷ ds) xs all =
    let parts : (is_digit_byte d ≡ true) × (list_all is_digit_byte ds ≡ true) = and_parts (is_digit_byte d) (list_all is_digit_byte ds) all in
    let rest : Split ds xs = split_digits ds xs parts.1 in
    record {
      whole = before-∷ d (ds ++ xs) ∙ ap (λ b. cond (not b) (d ∷ whole_of (ds ++ xs)) []) (digit_no_point d parts.0) ∙ ap (λ ys. d ∷ ys) rest.whole;
      fraction = after-∷ d (ds ++ xs) false (digit_no_point d parts.0) ∙ rest.fraction;
    }

record Parts (n : Numeral) : Type 0 where
  whole : whole_of (numeral_bytes n) ≡ before_point n
  fraction : fraction_of (numeral_bytes n) ≡ behind_point n
  solid : list_all is_solid (numeral_bytes n) ≡ true
  some : 0 < length (numeral_bytes n)

parts_of : (n : Numeral) → is_numeral (before_point n ++ behind_point n) ≡ true → Parts n
parts_of (DigitsAlone ds) digits =
    let same : ds ++ [] ≡ ds = append-nil ds in
    let all : list_all is_digit_byte ds ≡ true = ap (list_all is_digit_byte) (sym same) ∙ all_digits (ds ++ []) digits in
    let split : Split ds [] = split_digits ds [] all in
    record {
      whole = ap whole_of (sym same) ∙ split.whole ∙ same;
      fraction = ap fraction_of (sym same) ∙ split.fraction;
      solid = digits_solid ds all;
      some = some_digits ds (ap is_numeral (sym same) ∙ digits);
    }
parts_of (Pointed b f) digits =
    let all = and_parts (list_all is_digit_byte b) (list_all is_digit_byte f) (sym (list_all-append is_digit_byte b f) ∙ all_digits (b ++ f) digits) in
    let split : Split b (46 ∷ f) = split_digits b (46 ∷ f) all.0 in
    record {
      whole = split.whole ∙ append-nil b;
      fraction = split.fraction;
      solid = all-append is_solid b (46 ∷ f) (digits_solid b all.0) (digits_solid f all.1);
      some = omega (arith, length-append b (46 ∷ f));
    }

sign_solid : (s : Sign) → list_all is_solid (sign_bytes s) ≡ true
sign_solid Bare = refl
sign_solid Plus = refl
sign_solid Minus = refl

pub number-spelled : (v : List ℕ) (d : Decimal) → CountsAs v d → number v ≡ Some d
unfolding number
number-spelled v d c =
    let p : Parts c.numeral = parts_of c.numeral c.digits in
    let bare : NoSign (numeral_bytes c.numeral) = no_sign c.numeral c.digits in
    let t : trimmed v ≡ sign_bytes c.sign ++ numeral_bytes c.numeral =
    ap trimmed c.bytes ∙ trimmed-spelled c.front (sign_bytes c.sign ++ numeral_bytes c.numeral) c.back c.white_front c.white_back
    (all-append is_solid (sign_bytes c.sign) (numeral_bytes c.numeral) (sign_solid c.sign) p.solid)
    (omega (arith, length-append (sign_bytes c.sign) (numeral_bytes c.numeral), p.some)) in
    let u : without_sign (trimmed v) ≡ numeral_bytes c.numeral = ap without_sign t ∙ without_sign-spelled c.sign (numeral_bytes c.numeral) bare in
    let minus : is_negative (trimmed v) ≡ is_minus c.sign = ap is_negative t ∙ is_negative-spelled c.sign (numeral_bytes c.numeral) bare in
    let whole : whole_of (without_sign (trimmed v)) ≡ before_point c.numeral = ap whole_of u ∙ p.whole in
    let fraction : fraction_of (without_sign (trimmed v)) ≡ behind_point c.numeral = ap fraction_of u ∙ p.fraction in
    (λ i. decimal_of (minus i) (whole i) (fraction i))
    ∙ ap (λ b. cond b (Some (decimal_number (is_minus c.sign) (before_point c.numeral) (behind_point c.numeral))) None) c.digits
    ∙ ap Some (sym c.value)
