-- Laws of lines, and of what flows from a part (this project's).
use Rattle.std.proofs.Common.{◌≡◌, ℕ, true, false, Option, Some, None}
use Rattle.std.proofs.lemmas.Bool.{true≢false}

-- no lines have no place
pub none_apart : (place : ℕ) → None ≡ Some place → ⊥
none_apart place e = let z : ⊥ = cc in z

-- place 1 isn't place 0
pub beside_output : (◌≡◌ {A = Option ℕ} (Some 1) (Some 0)) → ⊥
beside_output e = let z : ⊥ = cc in z

-- lines that are wanted aren't unwanted
pub none_unwanted : (A : Type 0) → true ≡ false → A
none_unwanted A e = absurd (true≢false e)
