use Rattle.std.proofs.Common.{◌≡◌, ℕ, ◌+◌, take}
use Rattle.xq_normal.specs.Raw.{moved}
use Rattle.xq_normal.specs.Shapes.{capped, code_shape, shape_of}
use Rattle.xq_normal.specs.Sums.{condition_bytes, condition_steps}
use Rattle.xq_normal.proofs.Behind.{body_in}
use Rattle.xq_normal.proofs.measure.+measures.Given as goal

abbrev pub invariant-measure-loop-item : goal.invariant-measure-loop-item
invariant-measure-loop-item l = record {
  steps : (n : ℕ) → l.fn.tally.steps ≡ capped n → l.tally.steps ≡ capped (n + condition_steps (moved (body_in (take l.item-index l.item-items))));
  bytes : (n : ℕ) → l.fn.tally.bytes ≡ capped n → l.tally.bytes ≡ capped (n + condition_bytes (moved (body_in (take l.item-index l.item-items))));
  shape : l.shape ≡ code_shape (shape_of (moved (body_in (take l.item-index l.item-items))));
}
