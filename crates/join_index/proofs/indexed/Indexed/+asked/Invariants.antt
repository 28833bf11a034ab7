use Rattle.join_index.proofs.Walks.{AllTold, AnyTold}
use Rattle.join_index.proofs.indexed.Indexed.+asked.Given as goal

abbrev pub invariant-loop-inner : goal.invariant-loop-inner
invariant-loop-inner g l = AllTold l.buffer l.env l.initial.self l.inner-items l.self l.inner-index

abbrev pub invariant-loop-inner-2 : goal.invariant-loop-inner-2
invariant-loop-inner-2 g l = AnyTold l.buffer l.env l.initial.self l.inner-items l.self l.inner-index

abbrev pub decreases-asked : goal.decreases-asked
decreases-asked g l = goal.size-asked g l
