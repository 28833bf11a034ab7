use Rattle.cond_eval.specs.Asking.{Over}
use Rattle.cond_eval.proofs.Parts.{AllGoes, AnyGoes}
use Rattle.cond_eval.proofs.conds.+truth_of.Given as goal

abbrev pub invariant-loop-inner : goal.invariant-loop-inner
invariant-loop-inner g l = AllGoes (Over l.buffer.nodes (g.L.Leaves.holds_of l.initial.leaves)) l.buffer.rows l.env l.inner-items (Over l.buffer.nodes (g.L.Leaves.holds_of l.leaves)) l.inner-index

abbrev pub invariant-loop-inner-2 : goal.invariant-loop-inner-2
invariant-loop-inner-2 g l = AnyGoes (Over l.buffer.nodes (g.L.Leaves.holds_of l.initial.leaves)) l.buffer.rows l.env l.inner-items (Over l.buffer.nodes (g.L.Leaves.holds_of l.leaves)) l.inner-index

abbrev pub decreases-truth_of : goal.decreases-truth_of
decreases-truth_of g l = goal.size-truth_of g l
