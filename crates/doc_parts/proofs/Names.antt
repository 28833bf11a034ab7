-- The characters of names that take one byte.
use Rattle.std.proofs.Common.{ℕ, zero, suc, ◌≡◌, ◌<◌, Bool, true, false, ◌&&◌, refl, sym, subst, arith, inl, inr, ltb-true}
use Rattle.std.specs.Prelude.{nat_lt}
use Rattle.std.proofs.lemmas.Bool.{false≢true, cases_lt, and_parts}
use Rattle.gcx_base.specs.Characters.{is_part_char}
use Rattle.doc_parts.specs.Spans.{is_short_part}

abbrev are_same : Bool → Bool → Bool
are_same true b = b
are_same false true = false
are_same false false = true

same_is : (a b : Bool) → are_same a b ≡ true → a ≡ b
same_is true b e = sym e
same_is false true e = absurd (false≢true e)
same_is false false e = refl

abbrev all_below : ℕ → Bool
all_below zero = true
all_below (suc n) = are_same (is_short_part n) (is_part_char n) && all_below n

below : (n b : ℕ) → all_below n ≡ true → b < n → is_short_part b ≡ is_part_char b
below zero b e l = absurd (omega arith)
below (suc n) b e l =
    let both = and_parts (are_same (is_short_part n) (is_part_char n)) (all_below n) e in
    elim (cases_lt b n) [
      | inl m ↦ below n b both.1 m
      | inr m ↦
          let last : n ≡ b = omega arith in
          subst (λ k. is_short_part k ≡ is_part_char k) last (same_is (is_short_part n) (is_part_char n) both.0)
    ]

pub short_part : (b : ℕ) → nat_lt b 128 && is_short_part b ≡ nat_lt b 128 && is_part_char b
short_part b =
    elim (nat_lt b 128) as (λ (t : Bool). nat_lt b 128 ≡ t → t && is_short_part b ≡ t && is_part_char b) [
      | true ↦ λ e. below 128 b refl (ltb-true b 128 e)
      | false ↦ λ e. refl
    ] refl
