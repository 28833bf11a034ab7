use Rattle.cond_eval.proofs.Comparisons.{ClosedOf}
use Rattle.cond_eval.proofs.pairs.closed_matches.Given as goal

abbrev pub invariant-loop-member : goal.invariant-loop-member
invariant-loop-member g l = ClosedOf l.buffer.rows l.fn.place.0 l.steps l.member-index l.closed.items
