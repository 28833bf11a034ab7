-- A set of roles as a word of bits and a list. This follows the code: only private functions and the set's model speak
-- of it. All definitions here are this project's.
use Rattle.std.specs.Prelude.{◌≡◌, ◌<◌, ◌≤◌, ◌==◌, ℕ, zero, suc, Bool, true, false, not, ◌&&◌, ◌||◌, cond, List, [], ◌∷◌, ◌++◌}
use Rattle.std.specs.Int.{bit_at}
use Rattle.std.specs.List.{list_any}
use Rattle.std.specs.Ordering.{nat_cmp}
use Rattle.std.specs.FinSet as set

-- the word has the number
abbrev pub has_bit : ℕ → ℕ → Bool
has_bit word number = bit_at word number == 1

pub record AddsBit (word number result : ℕ) : Type 0 where
  pub bits : (k : ℕ) → k < 64 → has_bit result k ≡ ((k == number) || has_bit word k)

pub record DropsBit (word number result : ℕ) : Type 0 where
  pub bits : (k : ℕ) → k < 64 → has_bit result k ≡ (not (k == number) && has_bit word k)

-- both words have some number
abbrev pub WordsMeet : ℕ → ℕ → Type 0
WordsMeet word other = (k : ℕ) × (k < 64) × (has_bit word k ≡ true) × (has_bit other k ≡ true)

-- both lists have some number
abbrev pub NumbersMeet : List ℕ → List ℕ → Type 0
NumbersMeet xs ys = (k : ℕ) × (list_any (λ j. j == k) xs ≡ true) × (list_any (λ j. j == k) ys ≡ true)

-- the numbers below w that the word has
unfoldable pub bits_below : ℕ → ℕ → List ℕ
bits_below word zero = []
bits_below word (suc k) = cond (has_bit word k) (k ∷ bits_below word k) (bits_below word k)

-- each number is 64 or more, and stands once
abbrev pub HighOnce : List ℕ → Type 0
HighOnce [] = Unit {0}
HighOnce (n ∷ ns) = (64 ≤ n) × (list_any (λ k. k == n) ns ≡ false) × HighOnce ns

unfoldable pub roles_of : ℕ → List ℕ → set.FinSet nat_cmp
roles_of low high = set.from_list (bits_below low 64 ++ high)
