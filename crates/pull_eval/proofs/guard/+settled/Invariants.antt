use Rattle.std.proofs.Common.{suc}
use Rattle.gcx_model.specs.ItemView.{item_tree}
use Rattle.pull_eval.specs.Guards.{IsClosedBelow}
use Rattle.pull_eval.specs.Position.{items}
use Rattle.pull_eval.specs.Weight.{weigh_body, weigh_item}
use Rattle.pull_eval.proofs.Guarding.{UsedTo}
use Rattle.pull_eval.proofs.guard.+settled.Given as goal

abbrev pub decreases-is_settled : goal.decreases-is_settled
decreases-is_settled g l = suc (weigh_body 1 (items l.body.now))

abbrev pub decreases-is_item_settled : goal.decreases-is_item_settled
decreases-is_item_settled g l = weigh_item 1 (item_tree l.item.now)

abbrev pub invariant-is_settled-loop-item : goal.invariant-is_settled-loop-item
invariant-is_settled-loop-item g l = UsedTo (IsClosedBelow l.buffer.rows l.env l.var.0) l.body l.item-index
