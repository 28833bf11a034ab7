-- Counts that stand still at their type's end.
use Rattle.std.proofs.Common.{◌≡◌, ℕ, ◌+◌, ◌^◌, ◌<◌, arith}
use Rattle.xq_normal.specs.Shapes.{capped}

-- the last count of a loop that adds up
pub counted : (count rest total : ℕ) → count < 2 ^ 64 → rest ≡ 0 → capped (count + rest) ≡ capped total → count ≡ capped total
counted count rest total fits none e = omega arith
