-- The numbers that digits write.
use Rattle.std.proofs.Common.{◌≡◌, ◌<◌, ◌≤◌, ◌+◌, ◌-◌, ◌*◌, ◌^◌, ℕ, zero, suc, true, List, [], ◌∷◌, sym, ap, ◌∙◌, subst, arith, length, drop, drop-cons, get_or}
use Rattle.std.specs.List.{list_all}
use Rattle.std.proofs.Math.Nat.{pow-suc, mul-le-mul_left}
use Rattle.std.proofs.lemmas.Nat.{pow-add}
use Rattle.std.proofs.lemmas.Bool.{and_parts}
use Rattle.std.proofs.lemmas.Bool.Decides.{nat_tests}
use Rattle.gcx_model.specs.Values.{digits_from, is_digit_byte}

ten_pos : (k : ℕ) → 0 < 10 ^ k
ten_pos zero = omega arith
ten_pos (suc k) = omega (arith, pow-suc 10 k, ten_pos k)

digits_from-≥ : (n : ℕ) (ds : List ℕ) → n ≤ digits_from n ds
digits_from-≥ n [] = omega arith
digits_from-≥ n (d ∷ ds) = omega (arith, digits_from-≥ (n * 10 + (d - 48)) ds)

is_digit-≤ : (d : ℕ) → is_digit_byte d ≡ true → (48 ≤ d) × (d ≤ 57)
is_digit-≤ d e = (grind (arith, nat_tests), grind (arith, nat_tests))

under_step : (n e q : ℕ) → e ≤ 9 → (n * 10 + e + 1) * q ≤ (n + 1) * (q * 10)
under_step n e q small = let most : q * (n * 10 + e + 1) ≤ q * (n * 10 + 10) = mul-le-mul_left q (omega arith) in omega (arith, most)

digits_from-< : (n : ℕ) (ds : List ℕ) → list_all is_digit_byte ds ≡ true → digits_from n ds < (n + 1) * 10 ^ length ds
digits_from-< n [] all = omega arith
digits_from-< n (d ∷ ds) all =
    let parts : (is_digit_byte d ≡ true) × (list_all is_digit_byte ds ≡ true) = and_parts (is_digit_byte d) (list_all is_digit_byte ds) all in
    let digit : d ≤ 57 = (is_digit-≤ d parts.0).1 in
    let behind : digits_from (n * 10 + (d - 48)) ds < (n * 10 + (d - 48) + 1) * 10 ^ length ds = digits_from-< (n * 10 + (d - 48)) ds parts.1 in
    let step : (n * 10 + (d - 48) + 1) * 10 ^ length ds ≤ (n + 1) * (10 ^ length ds * 10) = under_step n (d - 48) (10 ^ length ds) (omega arith) in
    subst (λ (q : ℕ). digits_from (n * 10 + (d - 48)) ds < (n + 1) * q) (sym (pow-suc 10 (length ds))) (below behind step)
  where
    below : {a b c : ℕ} → a < b → b ≤ c → a < c
    below h k = omega arith

-- with one digit more the number passes m, so the whole does
pub next_big : (m n i d : ℕ) (digits : List ℕ) (total : ℕ) → i < length digits → d ≡ get_or digits i d → digits_from n (drop i digits) ≡ total
    → m ≤ digits_from n (d ∷ []) → m ≤ total
next_big m n i d digits total within is same big =
    let next : digits_from n (drop i digits) ≡ digits_from (n * 10 + (get_or digits i d - 48)) (drop (suc i) digits) = ap (digits_from n) (drop-cons digits i d within) in
    let digit : n * 10 + (d - 48) ≡ n * 10 + (get_or digits i d - 48) = ap (λ x. n * 10 + (x - 48)) is in
    omega (arith, next, digit, digits_from-≥ (n * 10 + (get_or digits i d - 48)) (drop (suc i) digits))

scaled : (a b t : ℕ) → 0 < t → a < b → a * t < b * t
scaled a b t p h = let k : t * (a + 1) ≤ t * b = mul-le-mul_left t (omega arith) in omega (arith, k)

-- at most 18 digits write less than 10^18
pub few_below : (ds : List ℕ) → list_all is_digit_byte ds ≡ true → length ds ≤ 18 → digits_from 0 ds * 10 ^ (18 - length ds) < 10 ^ 18
few_below ds all few =
    let below : digits_from 0 ds < 10 ^ length ds = omega (arith, digits_from-< 0 ds all) in
    let k : digits_from 0 ds * 10 ^ (18 - length ds) < 10 ^ length ds * 10 ^ (18 - length ds) = scaled _ _ (10 ^ (18 - length ds)) (ten_pos (18 - length ds)) below in
    let sum : length ds + (18 - length ds) ≡ 18 = omega arith in
    let whole : 10 ^ length ds * 10 ^ (18 - length ds) ≡ 10 ^ 18 = sym (pow-add 10 (length ds) (18 - length ds)) ∙ ap (λ n. 10 ^ n) sum in
    omega (arith, k, whole)

pub few_digits : (ds : List ℕ) → list_all is_digit_byte ds ≡ true → length ds ≤ 18 → digits_from 0 ds < 2 ^ 64
few_digits ds all few =
    let k : digits_from 0 ds * 1 ≤ digits_from 0 ds * 10 ^ (18 - length ds) = mul-le-mul_left (digits_from 0 ds) (ten_pos (18 - length ds)) in
    omega (arith, k, few_below ds all few)
