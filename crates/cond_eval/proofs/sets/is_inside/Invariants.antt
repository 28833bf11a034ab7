use Rattle.std.proofs.Common.{Some}
use Rattle.buf_tree.specs.Shape.{Shape}
use Rattle.buf_tree.specs.Walk.{low_at}
use Rattle.cond_eval.proofs.Below.{Rising_to}
use Rattle.cond_eval.proofs.sets.is_inside.Given as goal

abbrev pub invariant-up : goal.invariant-up
invariant-up g l = record {
  shape : Shape (g.N.NodeStore.rows l.at.store.now) l.buffer.kept;
  climb : Rising_to l.buffer.kept l.fn.member l.last l.top l.at.place.0;
}

abbrev pub decreases-up : goal.decreases-up
decreases-up g l = low_at l.buffer.kept (Some l.at.place.0)
