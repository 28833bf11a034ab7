use Rattle.std.proofs.Common.{◌≡◌, take}
use Rattle.std.specs.FinSet as set
use Rattle.buf_tree.specs.Calls.{less, numbers}
use Rattle.buf_tree.proofs.buffer.roles_left.Given as goal

abbrev pub invariant-loop-role : goal.invariant-loop-role
invariant-loop-role l = record { held : l.roles.held ≡ set.from_list (less (numbers (take l.role-index l.given)) (numbers l.ahead)); signed : l.roles.signed ≡ set.empty }
