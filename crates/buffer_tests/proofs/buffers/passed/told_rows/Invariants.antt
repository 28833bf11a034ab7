use Rattle.std.proofs.Common.{IfSome}
use Rattle.buf_tree.specs.View.{InUse}
use Rattle.buffer_tests.proofs.buffers.passed.told_rows.Given as goal

abbrev pub invariant-loop : goal.invariant-loop
invariant-loop g l = IfSome l.at (λ p. InUse l.buffer.rows p.0)
