use Rattle.std.proofs.Common.{◌≡◌, length}
use Rattle.std.specs.Vec.Iter.{into_iter_items, into_iter_len}
use Rattle.gcx_model.specs.ItemView.{body_tree}
use Rattle.gcx_model.specs.Normal.{join}
use Rattle.xq_normal.proofs.Behind.{body_in}
use Rattle.xq_normal.proofs.bodies.put_body.Given as goal

abbrev pub invariant-loop-item : goal.invariant-loop-item
invariant-loop-item l = record {
  put : join (body_tree l.out) (body_in (into_iter_items l.item-iterator)) ≡ join (body_tree l.fn.out) (body_in (into_iter_items l.initial.item-iterator));
  left : into_iter_len l.item-iterator ≡ length (into_iter_items l.item-iterator);
}
