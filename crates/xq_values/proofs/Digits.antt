-- The numbers that digits write.
use Rattle.std.proofs.Common.{◌≡◌, ◌<◌, ◌≤◌, ◌+◌, ◌-◌, ◌*◌, ◌^◌, ◌⊎◌, ℕ, zero, suc, Bool, true, false, ◌&&◌, ◌==◌, List, [], ◌∷◌, ◌++◌, refl, sym, ap, ◌∙◌, subst, arith, length, length-append, append_assoc, take, drop, drop-cons, length-drop, min, get_or, Option, Some, None, MatchOption, inl, inr, nat_le}
use Rattle.std.specs.List.{list_all}
use Rattle.std.specs.Ordering.{nat_cmp, ordering_then}
use Rattle.std.specs.Option.{SomeIff}
use Rattle.std.proofs.Math.Nat.{pow-suc, mul_assoc, mul-le-mul_left}
use Rattle.std.proofs.lemmas.Nat.{pow-add}
use Rattle.std.proofs.lemmas.List.{length-take-le, take-append-drop}
use Rattle.std.proofs.lemmas.List.Folds.{list_all-append}
use Rattle.std.proofs.lemmas.Bool.{and_parts}
use Rattle.std.proofs.lemmas.Bool.Decides.{nat_tests}
use Rattle.gcx_model.specs.Values.{digits_from, is_digit_byte}
use Rattle.xq_values.proofs.Orders.{cmp-scaled, cmp-whole, then-equal}

pub ten_pos : (k : ℕ) → 0 < 10 ^ k
ten_pos zero = omega arith
ten_pos (suc k) = omega (arith, pow-suc 10 k, ten_pos k)

pub digits_from-append : (n : ℕ) (xs ys : List ℕ) → digits_from n (xs ++ ys) ≡ digits_from (digits_from n xs) ys
digits_from-append n [] ys = refl
digits_from-append n (x ∷ xs) ys = digits_from-append (n * 10 + (x - 48)) xs ys

pub digits_from-≥ : (n : ℕ) (ds : List ℕ) → n ≤ digits_from n ds
digits_from-≥ n [] = omega arith
digits_from-≥ n (d ∷ ds) = omega (arith, digits_from-≥ (n * 10 + (d - 48)) ds)

start_step : (n e q a b t : ℕ) → a ≡ (n * 10 + e) * q + t → b ≡ (0 * 10 + e) * q + t → a ≡ n * (q * 10) + b
start_step n e q a b t h k = omega arith

-- the number before stands as many places higher as digits follow
pub digits_from-start : (n : ℕ) (ds : List ℕ) → digits_from n ds ≡ n * 10 ^ length ds + digits_from 0 ds
digits_from-start n [] = omega arith
digits_from-start n (d ∷ ds) =
    start_step n (d - 48) (10 ^ length ds) (digits_from (n * 10 + (d - 48)) ds) (digits_from (0 * 10 + (d - 48)) ds) (digits_from 0 ds)
    (digits_from-start (n * 10 + (d - 48)) ds) (digits_from-start (0 * 10 + (d - 48)) ds)
    ∙ ap (λ q. n * q + digits_from (0 * 10 + (d - 48)) ds) (sym (pow-suc 10 (length ds)))

pub is_digit-≤ : (d : ℕ) → is_digit_byte d ≡ true → (48 ≤ d) × (d ≤ 57)
is_digit-≤ d e = (grind (arith, nat_tests), grind (arith, nat_tests))

under_step : (n e q : ℕ) → e ≤ 9 → (n * 10 + e + 1) * q ≤ (n + 1) * (q * 10)
under_step n e q small = let most : q * (n * 10 + e + 1) ≤ q * (n * 10 + 10) = mul-le-mul_left q (omega arith) in omega (arith, most)

pub digits_from-< : (n : ℕ) (ds : List ℕ) → list_all is_digit_byte ds ≡ true → digits_from n ds < (n + 1) * 10 ^ length ds
digits_from-< n [] all = omega arith
digits_from-< n (d ∷ ds) all =
    let parts : (is_digit_byte d ≡ true) × (list_all is_digit_byte ds ≡ true) = and_parts (is_digit_byte d) (list_all is_digit_byte ds) all in
    let digit : d ≤ 57 = (is_digit-≤ d parts.0).1 in
    let behind : digits_from (n * 10 + (d - 48)) ds < (n * 10 + (d - 48) + 1) * 10 ^ length ds = digits_from-< (n * 10 + (d - 48)) ds parts.1 in
    let step : (n * 10 + (d - 48) + 1) * 10 ^ length ds ≤ (n + 1) * (10 ^ length ds * 10) = under_step n (d - 48) (10 ^ length ds) (omega arith) in
    subst (λ (q : ℕ). digits_from (n * 10 + (d - 48)) ds < (n + 1) * q) (sym (pow-suc 10 (length ds))) (below behind step)
  where
    below : {a b c : ℕ} → a < b → b ≤ c → a < c
    below h k = omega arith

pub fraction-< : (ds : List ℕ) → list_all is_digit_byte ds ≡ true → digits_from 0 ds < 10 ^ length ds
fraction-< ds all = omega (arith, digits_from-< 0 ds all)

-- digits write 0 exactly where each is 0
pub zeros : (ds : List ℕ) → list_all (λ d. d == 48) ds ≡ true → digits_from 0 ds ≡ 0
zeros [] all = refl
zeros (d ∷ ds) all =
    let parts : ((d == 48) ≡ true) × (list_all (λ d. d == 48) ds ≡ true) = and_parts (d == 48) (list_all (λ d. d == 48) ds) all in
    let zero_digit : 0 * 10 + (d - 48) ≡ 0 = grind (arith, nat_tests) in
    ap (λ n. digits_from n ds) zero_digit ∙ zeros ds parts.1

pub nonzero : (ds : List ℕ) → list_all is_digit_byte ds ≡ true → list_all (λ d. d == 48) ds ≡ false → 0 < digits_from 0 ds
nonzero [] all none = cc
nonzero (d ∷ ds) all none =
    let parts : (is_digit_byte d ≡ true) × (list_all is_digit_byte ds ≡ true) = and_parts (is_digit_byte d) (list_all is_digit_byte ds) all in
    go (d == 48) refl (is_digit-≤ d parts.0).0 (nonzero ds parts.1)
  where
    go : (b : Bool) → (d == 48) ≡ b → 48 ≤ d → (list_all (λ d. d == 48) ds ≡ false → 0 < digits_from 0 ds) → 0 < digits_from (0 * 10 + (d - 48)) ds
    go true is digit rest =
        let zero_digit : 0 ≡ 0 * 10 + (d - 48) = grind (arith, nat_tests) in
        subst (λ (n : ℕ). 0 < digits_from n ds) zero_digit (rest (sym (ap (λ b. b && list_all (λ d. d == 48) ds) is) ∙ none))
    go false is digit rest =
        let more : 0 < d - 48 = grind (arith, nat_tests) in
        omega (arith, digits_from-≥ (0 * 10 + (d - 48)) ds)

-- ---- the comparison: 18 places at most are counted, and the rest only says whether there is more

some_places : (p r c k m : ℕ) → c ≤ 18 → r < 10 ^ k → (c ≡ 18) ⊎ (k ≡ 0)
    → ordering_then (nat_cmp (p * 10 ^ (18 - c)) m) (nat_cmp r 0) ≡ nat_cmp ((p * 10 ^ k + r) * 10 ^ 18) (m * 10 ^ (c + k))
some_places p r c k m few below (inl all) =
    ap (λ n. ordering_then (nat_cmp n m) (nat_cmp r 0)) one
    ∙ cmp-whole p m (10 ^ k) r below
    ∙ sym (cmp-scaled (p * 10 ^ k + r) (m * 10 ^ k) (10 ^ 18) (omega arith))
    ∙ ap (nat_cmp ((p * 10 ^ k + r) * 10 ^ 18)) places
  where
    one : p * 10 ^ (18 - c) ≡ p
    one = ap (λ n. p * 10 ^ (18 - n)) all ∙ (omega arith)

    regroup : (a b : ℕ) → a * b * 10 ^ 18 ≡ a * (10 ^ 18 * b)
    regroup a b = omega arith

    places : m * 10 ^ k * 10 ^ 18 ≡ m * 10 ^ (c + k)
    places = regroup m (10 ^ k) ∙ ap (λ n. m * (10 ^ n * 10 ^ k)) (sym all) ∙ ap (λ n. m * n) (sym (pow-add 10 c k))
some_places p r c k m few below (inr none) =
    ap (λ n. ordering_then (nat_cmp (p * 10 ^ (18 - c)) m) (nat_cmp n 0)) no_rest
    ∙ then-equal (nat_cmp (p * 10 ^ (18 - c)) m)
    ∙ sym (cmp-scaled (p * 10 ^ (18 - c)) m (10 ^ c) (ten_pos c))
    ∙ (λ i. nat_cmp (left i) (right i))
  where
    unit : 10 ^ k ≡ 1
    unit = ap (λ n. 10 ^ n) none

    no_rest : r ≡ 0
    no_rest = omega (arith, unit)

    all_of : (a b : ℕ) → b ≡ 1 → a ≡ a * b
    all_of a b one = sym (ap (λ n. a * n) one ∙ (omega arith))

    counted : p ≡ p * 10 ^ k + r
    counted = omega (arith, all_of p (10 ^ k) unit, no_rest)

    places : 18 - c + c ≡ 18
    places = omega arith

    left : p * 10 ^ (18 - c) * 10 ^ c ≡ (p * 10 ^ k + r) * 10 ^ 18
    left = mul_assoc p (10 ^ (18 - c)) (10 ^ c)
        ∙ ap (λ n. p * n) (sym (pow-add 10 (18 - c) c))
        ∙ ap (λ n. p * 10 ^ n) places
        ∙ ap (λ n. n * 10 ^ 18) counted

    right : m * 10 ^ c ≡ m * 10 ^ (c + k)
    right = let same : c ≡ c + k = omega arith in ap (λ n. m * 10 ^ n) same

digits_split : (whole counted rest : List ℕ)
    → digits_from 0 (whole ++ (counted ++ rest)) ≡ digits_from 0 (whole ++ counted) * 10 ^ length rest + digits_from 0 rest
digits_split whole counted rest =
    ap (digits_from 0) (sym (append_assoc whole counted rest))
    ∙ digits_from-append 0 (whole ++ counted) rest
    ∙ digits_from-start (digits_from 0 (whole ++ counted)) rest

-- the size in units of the digits that count, and then the rest, order as all digits do
pub counted_and_rest : (whole counted rest : List ℕ) (m : ℕ) → length counted ≤ 18 → list_all is_digit_byte rest ≡ true → (length counted ≡ 18) ⊎ (length rest ≡ 0)
    → ordering_then (nat_cmp (digits_from 0 (whole ++ counted) * 10 ^ (18 - length counted)) m) (nat_cmp (digits_from 0 rest) 0)
    ≡ nat_cmp (digits_from 0 (whole ++ (counted ++ rest)) * 10 ^ 18) (m * 10 ^ length (counted ++ rest))
counted_and_rest whole counted rest m few digits all =
    some_places (digits_from 0 (whole ++ counted)) (digits_from 0 rest) (length counted) (length rest) m few (fraction-< rest digits) all
    ∙ (λ i. nat_cmp (sym (digits_split whole counted rest) i * 10 ^ 18) (m * 10 ^ (sym (length-append counted rest) i)))

behind : (p : ℕ → Bool) (xs ys : List ℕ) → list_all p (xs ++ ys) ≡ true → list_all p ys ≡ true
behind p xs ys all = (and_parts (list_all p xs) (list_all p ys) (sym (list_all-append p xs ys) ∙ all)).1

-- the same for the first i digits of the fraction, which are the first 18 or all
pub at_18_places : (whole fraction : List ℕ) (i m : ℕ) → i ≡ min (length fraction) 18 → list_all is_digit_byte (whole ++ fraction) ≡ true
    → ordering_then (nat_cmp (digits_from 0 (whole ++ take i fraction) * 10 ^ (18 - length (take i fraction))) m) (nat_cmp (digits_from 0 (drop i fraction)) 0)
    ≡ nat_cmp (digits_from 0 (whole ++ fraction) * 10 ^ 18) (m * 10 ^ length fraction)
at_18_places whole fraction i m first digits =
    counted_and_rest whole (take i fraction) (drop i fraction) m (omega (arith, size)) rest (all_or_18 (nat_le 18 (length fraction)) refl)
    ∙ ap (λ ds. nat_cmp (digits_from 0 (whole ++ ds) * 10 ^ 18) (m * 10 ^ length ds)) (take-append-drop i fraction)
  where
    size : length (take i fraction) ≡ i
    size = length-take-le i fraction (omega arith)

    rest : list_all is_digit_byte (drop i fraction) ≡ true
    rest = behind is_digit_byte (take i fraction) (drop i fraction)
        (ap (list_all is_digit_byte) (take-append-drop i fraction) ∙ behind is_digit_byte whole fraction digits)

    all_or_18 : (b : Bool) → nat_le 18 (length fraction) ≡ b → (length (take i fraction) ≡ 18) ⊎ (length (drop i fraction) ≡ 0)
    all_or_18 true is = inl (let long : 18 ≤ length fraction = grind (arith, nat_tests) in omega (arith, size))
    all_or_18 false is = inr (let short : length fraction < 18 = grind (arith, nat_tests) in omega (arith, length-drop i fraction))

-- ---- where a number passes m

as_large : (m a : ℕ) (k : ℕ) → m ≤ a → m ≤ a * 10 ^ k
as_large m a k h = let more : a * 1 ≤ a * 10 ^ k = mul-le-mul_left a (ten_pos k) in omega (arith, more)

pub next_big : (m n i : ℕ) (digits : List ℕ) (total : ℕ) → i < length digits → digits_from n (drop i digits) ≡ total
    → m ≤ digits_from n (get_or digits i 0 ∷ []) → m ≤ total
next_big m n i digits total within is big =
    let next : digits_from n (drop i digits) ≡ digits_from (n * 10 + (get_or digits i 0 - 48)) (drop (suc i) digits) = ap (digits_from n) (drop-cons digits i 0 within) in
    omega (arith, next, digits_from-≥ (n * 10 + (get_or digits i 0 - 48)) (drop (suc i) digits))

pub whole_big : (m : ℕ) (whole fraction : List ℕ) (k : ℕ) → m ≤ digits_from 0 whole → m ≤ digits_from 0 (whole ++ fraction) * 10 ^ k
whole_big m whole fraction k big = as_large m (digits_from 0 (whole ++ fraction)) k
    (omega (arith, digits_from-append 0 whole fraction, digits_from-≥ (digits_from 0 whole) fraction))

pub both_big : (m : ℕ) (whole fraction : List ℕ) (n k : ℕ) → n ≡ digits_from 0 whole → m ≤ digits_from n fraction → m ≤ digits_from 0 (whole ++ fraction) * 10 ^ k
both_big m whole fraction n k is big = as_large m (digits_from 0 (whole ++ fraction)) k
    (let here : digits_from n fraction ≡ digits_from (digits_from 0 whole) fraction = ap (λ a. digits_from a fraction) is in omega (arith, digits_from-append 0 whole fraction, here))

-- a product that is there exactly where it is below m
pub match_of_iff : (m a b : ℕ) (r : Option ℕ) → a ≡ b → SomeIff r (a < m) a → MatchOption r (m ≤ b) (λ n. n ≡ b)
match_of_iff m a b None same says = omega (arith, says)
match_of_iff m a b (Some n) same says = says.1 ∙ same
