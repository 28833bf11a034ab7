-- Counts that stand still at their type's end.
use Rattle.std.proofs.Common.{◌≡◌, ◌+◌, ℕ, arith}
use Rattle.buf_tree.specs.View.{capped}

-- two rises are one
pub capped_twice : (a b : ℕ) → capped (capped a + b) ≡ capped (a + b)
capped_twice a b = omega arith
