use Rattle.std.proofs.Common.{◌≡◌, ℕ, take}
use Rattle.std.specs.FinSet.{contains}
use Rattle.buf_tree.proofs.Tables.{has_role}
use Rattle.buf_tree.proofs.spread.roles_of.Given as goal

abbrev pub invariant-loop-slot : goal.invariant-loop-slot
invariant-loop-slot l = (r : ℕ) → contains l.roles r ≡ has_role r (take l.slot-index l.tops)
