use Rattle.std.proofs.Common.{take}
use Rattle.cond_eval.proofs.Nexts.{Descends}
use Rattle.cond_eval.proofs.sets.descendants.Given as goal

abbrev pub invariant-loop-member : goal.invariant-loop-member
invariant-loop-member g l = Descends l.buffer.rows l.step (take l.member-index l.set) l.found.items l.done
