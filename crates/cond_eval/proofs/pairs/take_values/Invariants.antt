use Rattle.cond_eval.proofs.Pairing.{TookFirst}
use Rattle.cond_eval.proofs.pairs.take_values.Given as goal

abbrev pub invariant-loop-member : goal.invariant-loop-member
invariant-loop-member g l = TookFirst l.buffer.rows l.set l.hand l.fn.compared l.compared l.member-index
