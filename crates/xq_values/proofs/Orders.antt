-- Orders of sums and products, and of integers by their sizes.
use Rattle.std.proofs.Common.{◌≡◌, ◌<◌, ◌≤◌, ◌+◌, ◌*◌, ℕ, zero, suc, ℤ, refl, sym, ap, ◌∙◌, arith}
use Rattle.std.specs.Prelude.{pos, negsuc, neg_ℤ, ◌*ℤ◌, ◌<ℤ◌}
use Rattle.std.specs.declared.cmp.Ordering.{Ordering}
use Rattle.std.specs.declared.cmp.Ordering.TheVariants.{Less, Equal, Greater}
use Rattle.std.specs.Ordering.{nat_cmp, int_cmp, ordering_then, MatchOrdering}
use Rattle.std.specs.Cmp.{nat_cmp_is, int_cmp_is}
use Rattle.std.proofs.lemmas.Cmp.{ranked}
use Rattle.std.proofs.lemmas.Int.{ints}
use Rattle.std.proofs.Math.Nat.{mul-lt-mul_of_pos_left, mul-le-mul_left}

-- ---- numbers

less_scaled : (a b t : ℕ) → a < b → 0 < t → a * t < b * t
less_scaled a b t less some = let scaled : t * a < t * b = mul-lt-mul_of_pos_left less some in omega (arith, scaled)

pub cmp-scaled : (a b t : ℕ) → 0 < t → nat_cmp (a * t) (b * t) ≡ nat_cmp a b
cmp-scaled a b t some = sym (nat_cmp_is (a * t) (b * t) (nat_cmp a b) (go (nat_cmp a b) (ranked a b (nat_cmp a b) refl)))
  where
    go : (o : Ordering) → MatchOrdering o (a < b) (a ≡ b) (b < a) → MatchOrdering o (a * t < b * t) (a * t ≡ b * t) (b * t < a * t)
    go Less h = less_scaled a b t h some
    go Equal h = ap (λ n. n * t) h
    go Greater h = less_scaled b a t h some

cmp-rest : (x r : ℕ) → nat_cmp r 0 ≡ nat_cmp (x + r) x
cmp-rest x r = nat_cmp_is (x + r) x (nat_cmp r 0) (go (nat_cmp r 0) (ranked r 0 (nat_cmp r 0) refl))
  where
    go : (o : Ordering) → MatchOrdering o (r < 0) (r ≡ 0) (0 < r) → MatchOrdering o (x + r < x) (x + r ≡ x) (x < x + r)
    go Less h = omega arith
    go Equal h = omega arith
    go Greater h = omega arith

-- wholes decide, and where they are equal the rest does
pub cmp-whole : (a b k r : ℕ) → r < k → ordering_then (nat_cmp a b) (nat_cmp r 0) ≡ nat_cmp (a * k + r) (b * k)
cmp-whole a b k r below = go (nat_cmp a b) (ranked a b (nat_cmp a b) refl)
  where
    go : (o : Ordering) → MatchOrdering o (a < b) (a ≡ b) (b < a) → ordering_then o (nat_cmp r 0) ≡ nat_cmp (a * k + r) (b * k)
    go Less h = nat_cmp_is (a * k + r) (b * k) Less (let most : k * suc a ≤ k * b = mul-le-mul_left k (omega arith) in omega (arith, most))
    go Equal h = cmp-rest (b * k) r ∙ ap (λ n. nat_cmp (n * k + r) (b * k)) (sym h)
    go Greater h = nat_cmp_is (a * k + r) (b * k) Greater (let least : b * k < a * k = less_scaled b a k h (omega arith) in omega (arith, least))

pub then-equal : (o : Ordering) → ordering_then o Equal ≡ o
then-equal Less = refl
then-equal Equal = refl
then-equal Greater = refl

-- ---- integers

-- a number below 0 times a natural one
neg-times : (a t : ℕ) → neg_ℤ (pos a) *ℤ pos t ≡ neg_ℤ (pos (a * t))
neg-times zero t = omega (arith, ints)
neg-times (suc n) t = refl

-- ---- u * t against l * f, where u is a size with or without a `-`

pub plus_minus : (u t f : ℕ) (l : ℤ) → 0 < f → l <ℤ pos 0 → Greater ≡ int_cmp (pos u *ℤ pos t) (l *ℤ pos f)
plus_minus u t f (pos m) some h = absurd (omega (arith, ints))
plus_minus u t f (negsuc n) some h =
    let size : 0 * f < suc n * f = less_scaled 0 (suc n) f (omega arith) some in
    int_cmp_is (pos (u * t)) (neg_ℤ (pos (suc n * f))) Greater (omega (arith, ints, size))

pub minus_plus : (u t f : ℕ) (l : ℤ) → 0 < f → pos 0 <ℤ l → Less ≡ int_cmp (neg_ℤ (pos u) *ℤ pos t) (l *ℤ pos f)
minus_plus u t f (pos m) some h =
    let size : 0 * f < m * f = less_scaled 0 m f (omega (arith, ints)) some in
    int_cmp_is (neg_ℤ (pos (u * t))) (pos (m * f)) Less (omega (arith, ints, size)) ∙ ap (λ a. int_cmp a (pos (m * f))) (sym (neg-times u t))
minus_plus u t f (negsuc n) some h = absurd (omega (arith, ints))
