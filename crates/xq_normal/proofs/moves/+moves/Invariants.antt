use Rattle.std.proofs.Common.{◌≡◌, ◌≤◌, length}
use Rattle.std.specs.Vec.Iter.{into_iter_items, into_iter_len}
use Rattle.gcx_model.specs.ItemView.{body_tree, item_tree}
use Rattle.gcx_model.specs.Normal.{join}
use Rattle.xq_normal.specs.Raw.{moved}
use Rattle.xq_normal.proofs.Behind.{body_in, weight, weights}
use Rattle.xq_normal.proofs.moves.+moves.Given as goal

abbrev pub decreases-moved : goal.decreases-moved
decreases-moved l = weights (body_tree l.body)

abbrev pub decreases-put_moved_item : goal.decreases-put_moved_item
decreases-put_moved_item l = weight (item_tree l.item)

abbrev pub invariant-moved-loop-item : goal.invariant-moved-loop-item
invariant-moved-loop-item l = record {
  put : join (body_tree l.out) (moved (body_in (into_iter_items l.item-iterator))) ≡ moved (body_in (into_iter_items l.initial.item-iterator));
  left : into_iter_len l.item-iterator ≡ length (into_iter_items l.item-iterator);
  less : weights (body_in (into_iter_items l.item-iterator)) ≤ weights (body_in (into_iter_items l.initial.item-iterator));
}
