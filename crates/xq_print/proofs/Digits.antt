-- The digits behind a point, without the zeros at their end.
use Rattle.std.proofs.Common.{ℕ, zero, suc, ◌≡◌, ◌+◌, ◌-◌, ◌*◌, ◌/◌, ◌%◌, ◌^◌, ◌<◌, ◌≤◌, ◌==◌, false, List, [], ◌∷◌, ◌++◌, refl, sym, ap, ◌∙◌, subst, arith, append_assoc, append-nil}
use Rattle.std.proofs.Math.Nat.{pow-suc, one-le-pow, mul-add-div_right, mul-add-mod_self_right, div-lt_iff_lt-mul, div-eq_of_lt, mod-eq_of_lt, mod-lt}
use Rattle.std.proofs.lemmas.Nat.{pow-add, div-add-mod'}
use Rattle.std.proofs.lemmas.Bool.{ne_eqb}
use Rattle.std.specs.Char.{encode_utf8}
use Rattle.std.proofs.lemmas.Str.{encode_ascii}
use Rattle.xq_print.specs.Literals.{places, kept_before, without_zeros, with_point, fraction_text}

-- ---- Places above the last ones tell nothing of them.

higher : (k m q s : ℕ) → (q * 10 ^ (suc k + m) + s) / 10 ^ k % 10 ≡ s / 10 ^ k % 10
higher k m q s =
    let power : 10 ^ (suc k + m) ≡ 10 ^ m * 10 * 10 ^ k = by_power in
    let parts : q * 10 ^ (suc k + m) + s ≡ (q * 10 ^ m * 10) * 10 ^ k + s = omega (arith, ap (λ (x : ℕ). q * x) power) in
    let whole : (q * 10 ^ (suc k + m) + s) / 10 ^ k ≡ q * 10 ^ m * 10 + s / 10 ^ k =
    ap (λ (x : ℕ). x / 10 ^ k) parts ∙ mul-add-div_right (one-le-pow k 10 (omega arith)) (q * 10 ^ m * 10) s in
    ap (λ (x : ℕ). x % 10) whole ∙ mul-add-mod_self_right (q * 10 ^ m) 10 (s / 10 ^ k)
  where
    by_power : 10 ^ (suc k + m) ≡ 10 ^ m * 10 * 10 ^ k
    by_power = ap (λ (x : ℕ). 10 ^ x) (omega arith) ∙ (pow-add 10 (suc m) k ∙ ap (λ (x : ℕ). x * 10 ^ k) (pow-suc 10 m))

places_of : (k m q s : ℕ) → places k (q * 10 ^ (k + m) + s) ≡ places k s
unfolding places
places_of zero m q s = refl
places_of (suc k) m q s =
    let more : places k (q * 10 ^ (suc k + m) + s) ≡ places k s =
    ap (λ (n : ℕ). places k (q * 10 ^ n + s)) (omega arith) ∙ places_of k (suc m) q s in
    (λ i. (48 + higher k m q s i) ∷ more i)

-- the lower places of a number are those of its remainder
lower : (k n : ℕ) → places k n ≡ places k (n % 10 ^ k)
lower k n =
    let whole : n / 10 ^ k * 10 ^ (k + 0) + n % 10 ^ k ≡ n = ap (λ (m : ℕ). n / 10 ^ k * 10 ^ m + n % 10 ^ k) (omega arith) ∙ div-add-mod' n (10 ^ k) in
    ap (λ (x : ℕ). places k x) (sym whole) ∙ places_of k 0 (n / 10 ^ k) (n % 10 ^ k)

-- ---- Digits are kept as long as something is left.

pub record IsSome (xs : List ℕ) : Type 0 where
  pub first : ℕ
  pub others : List ℕ
  pub is : xs ≡ first ∷ others

kept_some : (d : ℕ) (xs : List ℕ) → IsSome xs → kept_before d xs ≡ d ∷ xs
kept_some d [] s = let e : [] ≡ s.first ∷ s.others = s.is in cc (e)
kept_some d (x ∷ xs) s = refl

kept_digit : (d : ℕ) (xs : List ℕ) → (d == 48) ≡ false → kept_before d xs ≡ d ∷ xs
kept_digit d [] e = rw e refl
kept_digit d (x ∷ xs) e = refl

pub top_digit : (k n : ℕ) → n < 10 ^ suc k → n / 10 ^ k < 10
top_digit k n h = (div-lt_iff_lt-mul {x = n} {y = 10} (one-le-pow k 10 (omega arith))).1 (omega (arith, pow-suc 10 k))

-- the first digit, and those of what is left
first_by : (k n : ℕ) → ((m : ℕ) → 0 < m → m < 10 ^ k → IsSome (without_zeros (places k m))) → 0 < n → n < 10 ^ suc k →
    without_zeros (places (suc k) n) ≡ (48 + n / 10 ^ k) ∷ without_zeros (places k (n % 10 ^ k))
unfolding places
first_by k n some positive small =
    (λ i. kept_before (48 + digit i) (without_zeros (lower k n i))) ∙ by (n / 10 ^ k) refl
  where
    digit : n / 10 ^ k % 10 ≡ n / 10 ^ k
    digit = mod-eq_of_lt (top_digit k n small)

    by : (d : ℕ) → n / 10 ^ k ≡ d → kept_before (48 + n / 10 ^ k) (without_zeros (places k (n % 10 ^ k))) ≡ (48 + n / 10 ^ k) ∷ without_zeros (places k (n % 10 ^ k))
    by zero e =
        let whole : n / 10 ^ k * 10 ^ k + n % 10 ^ k ≡ n = div-add-mod' n (10 ^ k) in
        let none : n / 10 ^ k * 10 ^ k ≡ 0 = ap (λ (x : ℕ). x * 10 ^ k) e ∙ omega arith in
        kept_some (48 + n / 10 ^ k) (without_zeros (places k (n % 10 ^ k))) (some (n % 10 ^ k) (omega arith) (mod-lt n (one-le-pow k 10 (omega arith))))
    by (suc d) e = kept_digit (48 + n / 10 ^ k) (without_zeros (places k (n % 10 ^ k))) (ne_eqb (48 + n / 10 ^ k) 48 (λ h. omega arith))

pub digits_some : (k n : ℕ) → 0 < n → n < 10 ^ k → IsSome (without_zeros (places k n))
digits_some zero n positive small = absurd (omega arith)
digits_some (suc k) n positive small = record {
  first = 48 + n / 10 ^ k;
  others = without_zeros (places k (n % 10 ^ k));
  is = first_by k n (digits_some k) positive small;
}

pub first_digit : (k n : ℕ) → 0 < n → n < 10 ^ suc k → without_zeros (places (suc k) n) ≡ (48 + n / 10 ^ k) ∷ without_zeros (places k (n % 10 ^ k))
first_digit k n positive small = first_by k n (digits_some k) positive small

pub no_digits : (k : ℕ) → without_zeros (places k 0) ≡ []
unfolding places
no_digits zero = refl
no_digits (suc k) =
    let zero_digit : 0 / 10 ^ k % 10 ≡ 0 = ap (λ (x : ℕ). x % 10) (div-eq_of_lt {n = 0} {m = 10 ^ k} (one-le-pow k 10 (omega arith))) in
    (λ i. kept_before (48 + zero_digit i) (no_digits k i))

-- behind a point
pub point_before : (xs : List ℕ) → IsSome xs → with_point xs ≡ 46 ∷ xs
point_before [] s = let e : [] ≡ s.first ∷ s.others = s.is in cc (e)
point_before (x ∷ xs) s = refl

pub some_fraction : (n : ℕ) → 0 < n → n < 10 ^ 18 → fraction_text n ≡ 46 ∷ without_zeros (places 18 n)
some_fraction n positive small = point_before (without_zeros (places 18 n)) (digits_some 18 n positive small)

pub no_fraction : fraction_text 0 ≡ []
no_fraction = ap with_point (no_digits 18)

-- ---- What the code puts.

some_places : (left rest : ℕ) → 0 < rest → rest < 10 ^ left → 0 < left
some_places zero rest positive small = absurd (omega arith)
some_places (suc k) rest positive small = omega arith

-- the place of the next digit
pub record IsPlace (left rest unit : ℕ) : Type 0 where
  pub is_suc : left ≡ suc (left - 1)
  pub positive : 0 < unit
  pub digit : rest / unit < 10
  pub below : rest % unit < 10 ^ (left - 1)
  pub first : without_zeros (places left rest) ≡ (48 + rest / unit) ∷ without_zeros (places (left - 1) (rest % unit))

pub place_at : (left rest unit : ℕ) → 0 < rest → rest < 10 ^ left → unit ≡ 10 ^ (left - 1) → IsPlace left rest unit
place_at left rest unit positive small e = subst (λ (x : ℕ). IsPlace left rest x) (sym e) (record {
  is_suc = next;
  positive = one-le-pow (left - 1) 10 (omega arith);
  digit = top_digit (left - 1) rest below_next;
  below = mod-lt rest (one-le-pow (left - 1) 10 (omega arith));
  first = ap (λ (x : ℕ). without_zeros (places x rest)) next ∙ first_digit (left - 1) rest positive below_next;
})
  where
    next : left ≡ suc (left - 1)
    next = let some : 0 < left = some_places left rest positive small in omega arith

    below_next : rest < 10 ^ suc (left - 1)
    below_next = subst (λ (x : ℕ). rest < 10 ^ x) next small

pub next_place : (before now final : List ℕ) (left rest unit d : ℕ) → IsPlace left rest unit → d ≡ 48 + rest / unit → now ≡ before ++ encode_utf8 d →
    before ++ without_zeros (places left rest) ≡ final → now ++ without_zeros (places (left - 1) (rest % unit)) ≡ final
next_place before now final left rest unit d p digit put whole =
    let byte : encode_utf8 d ≡ (48 + rest / unit) ∷ [] = ap encode_utf8 digit ∙ encode_ascii (48 + rest / unit) (omega (arith, p.digit)) in
    ap (λ (x : List ℕ). x ++ without_zeros (places (left - 1) (rest % unit))) (put ∙ ap (λ (x : List ℕ). before ++ x) byte)
    ∙ (append_assoc before ((48 + rest / unit) ∷ []) (without_zeros (places (left - 1) (rest % unit)))
    ∙ (ap (λ (x : List ℕ). before ++ x) (sym p.first) ∙ whole))

pub last_place : (out final : List ℕ) (left rest : ℕ) → rest ≤ 0 → out ++ without_zeros (places left rest) ≡ final → out ≡ final
last_place out final left rest none whole =
    let zero_left : rest ≡ 0 = omega arith in
    sym (append-nil out) ∙ (ap (λ (x : List ℕ). out ++ x) (sym (ap (λ (x : ℕ). without_zeros (places left x)) zero_left ∙ no_digits left)) ∙ whole)

pub point_put : (old between new : List ℕ) (n : ℕ) → 0 < n → n < 10 ^ 18 → between ≡ old ++ 46 ∷ [] → new ≡ between ++ without_zeros (places 18 n) → new ≡ old ++ fraction_text n
point_put old between new n positive small point put =
    put ∙ (ap (λ (x : List ℕ). x ++ without_zeros (places 18 n)) point
    ∙ (append_assoc old (46 ∷ []) (without_zeros (places 18 n)) ∙ ap (λ (x : List ℕ). old ++ x) (sym (some_fraction n positive small))))

pub nothing_put : (old : List ℕ) (n : ℕ) → n ≤ 0 → old ≡ old ++ fraction_text n
nothing_put old n none =
    let zero_left : n ≡ 0 = omega arith in sym (ap (λ (x : List ℕ). old ++ x) (ap fraction_text zero_left ∙ no_fraction) ∙ append-nil old)
