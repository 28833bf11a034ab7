-- How many numbers a word and a list make together.
use Rattle.std.proofs.Common.{◌≡◌, ◌<◌, ◌≤◌, ◌+◌, ◌/◌, ◌%◌, ◌^◌, ◌==◌, ◌||◌, ◌++◌, ℕ, zero, suc, Bool, true, false, cond, List, [], ◌∷◌, length, length-append, count_ones, sym, ap, refl, ◌∙◌, arith, add-one, pow-suc}
use lib.Count.{ones_step}
use Rattle.std.specs.Int.{bit_at}
use Rattle.std.specs.Ordering.{nat_cmp}
use Rattle.std.specs.Cmp.{nat_cmp_total}
use Rattle.std.specs.FinSet.{from_list, len, len-empty, len-insert, contains-from_list_nat}
use Rattle.std.proofs.lemmas.Nat.{ones_le_self}
use Rattle.std.proofs.lemmas.Nat.Bits.{bit_at-lt, bit_at-suc, bit_at_lowest}
use Rattle.role_set.specs.Words.{has_bit, bits_below, roles_of, HighOnce}
use Rattle.role_set.proofs.Roles.{is_in, in_both, bits_above, none_low}

-- ---- a word's bits

none_below : (n : ℕ) → length (bits_below n 0) ≡ 0
unfolding bits_below
none_below n = refl

top_bit : (n w : ℕ) → length (bits_below n (suc w)) ≡ bit_at n w + length (bits_below n w)
unfolding bits_below
top_bit n w = go (bit_at n w) (bit_at-lt n w)
  where
    go : (b : ℕ) → b < 2 → length (cond (b == 1) (w ∷ bits_below n w) (bits_below n w)) ≡ b + length (bits_below n w)
    go zero l = omega arith
    go (suc zero) l = omega arith
    go (suc (suc b)) l = absurd (omega arith)

lowest_first : (w n : ℕ) → length (bits_below n (suc w)) ≡ n % 2 + length (bits_below (n / 2) w)
lowest_first zero n = let s = top_bit n 0 in let z = none_below n in let h = none_below (n / 2) in let b = bit_at_lowest n in omega (arith, s, z, h, b)
lowest_first (suc w) n =
    let s = top_bit n (suc w) in
    let low = lowest_first w n in
    let half = top_bit (n / 2) w in
    let b = bit_at-suc n w in
    omega (arith, s, low, half, b)

ones_are : (w n : ℕ) → n < 2 ^ w → count_ones n ≡ length (bits_below n w)
ones_are zero n fits = let z = none_below n in let few = ones_le_self n in omega (arith, fits, z, few)
ones_are (suc w) n fits =
    let s = ones_step n in
    let half = ones_are w (n / 2) (omega (arith, fits, pow-suc 2 w)) in
    let low = lowest_first w n in
    omega (arith, s, half, low)

-- ---- a list that has each number once

abbrev pub Once : List ℕ → Type 0
Once [] = Unit {0}
Once (x ∷ xs) = (is_in x xs ≡ false) × Once xs

pub len_once : (xs : List ℕ) → Once xs → len (from_list {R = nat_cmp} xs) ≡ length xs
len_once [] o = len-empty nat_cmp
len_once (x ∷ xs) o =
    len-insert nat_cmp_total (from_list xs) x
    ∙ ap (λ b. cond b (len (from_list {R = nat_cmp} xs)) (len (from_list {R = nat_cmp} xs) + 1)) (contains-from_list_nat xs x ∙ o.0)
    ∙ ap (λ n. n + 1) (len_once xs o.1)
    ∙ add-one (length xs)

once_high : (xs : List ℕ) → HighOnce xs → Once xs
once_high [] h = tt
once_high (x ∷ xs) h = (h.1, once_high xs h.2)

once_both : (word w : ℕ) (high : List ℕ) → w ≤ 64 → HighOnce high → Once (bits_below word w ++ high)
unfolding bits_below
once_both word zero high l h = once_high high h
once_both word (suc w) high l h = go (has_bit word w) (once_both word w high (omega arith) h)
  where
    go : (b : Bool) → Once (bits_below word w ++ high) → Once (cond b (w ∷ bits_below word w) (bits_below word w) ++ high)
    go true o = (in_both w (bits_below word w) high ∙ ap (λ b. b || is_in w high) (bits_above word w w (omega arith)) ∙ none_low high w h (omega arith), o)
    go false o = o

pub len_roles : (low : ℕ) (high : List ℕ) → low < 2 ^ 64 → HighOnce high → len (roles_of low high) ≡ count_ones low + length high
unfolding roles_of
len_roles low high fits h =
    len_once (bits_below low 64 ++ high) (once_both low 64 high (omega arith) h)
    ∙ length-append (bits_below low 64) high
    ∙ ap (λ n. n + length high) (sym (ones_are 64 low fits))
