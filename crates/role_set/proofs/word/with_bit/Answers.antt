use Rattle.std.proofs.Common.{◌≡◌, ◌==◌, ◌||◌, ◌<◌, ◌*◌, ◌^◌, ◌%◌, ℕ, Bool, true, false, ap, ◌∙◌, arith, w64, refl, bit_or}
use Rattle.std.specs.Int.{bit_at}
use Rattle.std.proofs.lemmas.Nat.Bits.{bit_at_set_same, bit_at_set_other}
use Rattle.std.proofs.lemmas.Bool.Decides.{nat_tests}
use Rattle.role_set.specs.Words.{has_bit}
use Rattle.role_set.proofs.word.with_bit.Goals as goal

added : (word number k : ℕ) → number < 64 → (b : Bool) → (k == number) ≡ b → has_bit (bit_or word (1 * 2 ^ number % 2 ^ 64)) k ≡ (b || has_bit word k)
added word number k within true same =
    let is : k ≡ number = grind (arith, nat_tests) in
    ap (λ n. n == 1) (ap (bit_at (bit_or word (1 * 2 ^ number % 2 ^ 64))) is ∙ bit_at_set_same w64 word number within)
added word number k within false apart = ap (λ n. n == 1) (bit_at_set_other w64 word number within k (λ is. grind (arith, nat_tests)))

pub returns : goal.returns
returns c = record { bits = λ k within. added c.args.word c.args.number k c.requires (k == c.args.number) refl }
