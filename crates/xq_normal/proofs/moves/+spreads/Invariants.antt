use Rattle.std.proofs.Common.{◌≡◌, ◌≤◌, suc, length}
use Rattle.std.specs.Vec.Iter.{into_iter_items, into_iter_len}
use Rattle.gcx_model.specs.Core.{Nil}
use Rattle.gcx_model.specs.CondView.{core_cond_tree}
use Rattle.gcx_model.specs.ItemView.{body_tree, item_tree}
use Rattle.gcx_model.specs.Normal.{join}
use Rattle.xq_normal.specs.Raw.{spread_on}
use Rattle.xq_normal.proofs.Behind.{body_in, weight, weights}
use Rattle.xq_normal.proofs.moves.+spreads.Given as goal

abbrev pub decreases-spread : goal.decreases-spread
decreases-spread l = weights (body_tree l.body)

abbrev pub decreases-spread_item : goal.decreases-spread_item
decreases-spread_item l = weight (item_tree l.item)

abbrev pub decreases-spread_turn : goal.decreases-spread_turn
decreases-spread_turn l = suc (weights (body_tree l.body))

abbrev pub invariant-spread-loop-item : goal.invariant-spread-loop-item
invariant-spread-loop-item l = record {
  put : join (body_tree l.out) (spread_on (core_cond_tree l.cond) l.first (body_tree l.run) (body_in (into_iter_items l.item-iterator))) ≡ spread_on (core_cond_tree l.cond) l.first Nil (body_in (into_iter_items l.initial.item-iterator));
  left : into_iter_len l.item-iterator ≡ length (into_iter_items l.item-iterator);
  less : weights (body_in (into_iter_items l.item-iterator)) ≤ weights (body_in (into_iter_items l.initial.item-iterator));
}
