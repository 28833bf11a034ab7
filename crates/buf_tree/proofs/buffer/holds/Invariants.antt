use Rattle.std.proofs.Common.{◌≡◌, ◌==◌, take, false}
use Rattle.std.specs.List.{list_any}
use Rattle.buf_tree.specs.Calls.{numbers}
use Rattle.buf_tree.proofs.buffer.holds.Given as goal

abbrev pub invariant-loop-other : goal.invariant-loop-other
invariant-loop-other l = list_any (λ k. k == l.role.0) (numbers (take l.other-index l.roles)) ≡ false
