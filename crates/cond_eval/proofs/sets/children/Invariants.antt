use Rattle.std.proofs.Common.{take}
use Rattle.cond_eval.proofs.Nexts.{Gathers}
use Rattle.cond_eval.proofs.sets.children.Given as goal

abbrev pub invariant-loop-member : goal.invariant-loop-member
invariant-loop-member g l = Gathers l.buffer.rows l.step (take l.member-index l.set) l.found.items
