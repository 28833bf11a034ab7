use Rattle.std.proofs.Common.{◌≡◌, ◌==◌, ◌&&◌, not, ◌<◌, ◌*◌, ◌^◌, ◌%◌, ℕ, Bool, true, false, ap, ◌∙◌, arith, w64, refl, bit_and}
use Rattle.std.specs.Int.{bit_at, bit_not}
use Rattle.std.proofs.lemmas.Nat.Bits.{bit_at_clear_same, bit_at_clear_other}
use Rattle.std.proofs.lemmas.Bool.Decides.{nat_tests}
use Rattle.role_set.specs.Words.{has_bit}
use Rattle.role_set.proofs.word.without_bit.Goals as goal

dropped : (word number k : ℕ) → number < 64 → k < 64 → (b : Bool) → (k == number) ≡ b
    → has_bit (bit_and word (bit_not w64 (1 * 2 ^ number % 2 ^ 64))) k ≡ (not b && has_bit word k)
dropped word number k inside within true same =
    let is : k ≡ number = grind (arith, nat_tests) in
    ap (λ n. n == 1) (ap (bit_at (bit_and word (bit_not w64 (1 * 2 ^ number % 2 ^ 64)))) is ∙ bit_at_clear_same w64 word number inside)
dropped word number k inside within false apart = ap (λ n. n == 1) (bit_at_clear_other w64 word number inside k within (λ is. grind (arith, nat_tests)))

pub returns : goal.returns
returns c = record { bits = λ k within. dropped c.args.word c.args.number k c.requires within (k == c.args.number) refl }
