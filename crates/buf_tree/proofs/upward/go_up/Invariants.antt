use Rattle.std.proofs.Common.{◌-◌, length}
use Rattle.buf_tree.proofs.Ways.{Stepped}
use Rattle.buf_tree.proofs.upward.go_up.Given as goal

abbrev pub invariant-steps : goal.invariant-steps
invariant-steps l = Stepped l.steps l.kind l.i l.fn.flags l.flags

abbrev pub decreases-steps : goal.decreases-steps
decreases-steps l = length l.steps - l.i
