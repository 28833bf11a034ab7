use Rattle.std.proofs.Common.{arith, rules}
use Rattle.gcx_model.specs.ItemView.{item_tree}
use Rattle.pull_eval.specs.Guards.{EachUsed, EachUsedInItem, IsBoundBelow, IsClosedBelow}
use Rattle.pull_eval.specs.Position.{items}
use Rattle.pull_eval.proofs.Guarding.{for_told, for_used, for_weighs, from_used, if_asked, if_told, item_weighs, used_all, used_in, used_more}
use Rattle.pull_eval.proofs.guard.+settled.Goals as goal

pub is_item_settled-is_cond_settled-requires : goal.is_item_settled-is_cond_settled-requires
is_item_settled-is_cond_settled-requires g t c =
    if_asked (IsBoundBelow c.args.buffer.now.rows c.args.env.now c.args.var.0) c.args.item.now c.in-If.cond c.in-If.then c.in-If.other c.in-If.is c.requires

pub is_item_settled-is_settled-requires : goal.is_item_settled-is_settled-requires
is_item_settled-is_settled-requires g t c κs within =
    let h : EachUsed (IsBoundBelow c.args.buffer.now.rows c.args.env.now c.args.var.0) (items c.items.result.now) =
    for_used (IsBoundBelow c.args.buffer.now.rows c.args.env.now c.args.var.0) c.args.item.now c.in-For.var c.in-For.from c.in-For.step c.in-For.body c.items.result.now c.in-For.is c.items.ensures.trees c.requires in
    let w = for_weighs c.args.item.now c.in-For.var c.in-For.from c.in-For.step c.in-For.body c.items.result.now c.in-For.is c.items.ensures.trees in
    let d = c.decreases in
    (omega (arith, w, d), search (rules, within, h))

pub is_item_settled-returns-in-If : goal.is_item_settled-returns-in-If
is_item_settled-returns-in-If g t c = λ e.
    if_told (IsClosedBelow c.args.buffer.now.rows c.args.env.now c.args.var.0) c.args.item.now c.in-If.cond c.in-If.then c.in-If.other c.in-If.is (c.is_cond_settled.ensures e)

pub is_item_settled-is_closed-requires : goal.is_item_settled-is_closed-requires
is_item_settled-is_closed-requires g t c =
    from_used (IsBoundBelow c.args.buffer.now.rows c.args.env.now c.args.var.0) c.args.item.now c.in-For.var c.in-For.from c.in-For.step c.in-For.body c.in-For.is c.requires

pub is_item_settled-returns-then-is_closed : goal.is_item_settled-returns-then-is_closed
is_item_settled-returns-then-is_closed g t c = λ e.
    for_told (IsClosedBelow c.args.buffer.now.rows c.args.env.now c.args.var.0) c.args.item.now c.in-For.var c.in-For.from c.in-For.step c.in-For.body c.items.result.now c.in-For.is c.items.ensures.trees (c.is_closed.ensures c.if-is_closed.true) (c.is_settled.ensures e)

pub is_settled-is_item_settled-requires : goal.is_settled-is_item_settled-requires
is_settled-is_item_settled-requires g t c κs within =
    let h : EachUsedInItem (IsBoundBelow c.args.buffer.now.rows c.args.env.now c.args.var.0) (item_tree c.item-item.result) =
    used_in (IsBoundBelow c.args.buffer.now.rows c.args.env.now c.args.var.0) c.args.body.now c.loop-item.item-index c.item-item.result c.loop-item-test.true c.item-item.is c.requires in
    let w = item_weighs c.args.body.now c.loop-item.item-index c.item-item.result c.loop-item-test.true c.item-item.is in
    let d = c.decreases in
    (omega (arith, w, d), search (rules, within, h))

pub is_settled-loop-item-preserved : goal.is_settled-loop-item-preserved
is_settled-loop-item-preserved g t c =
    used_more (IsClosedBelow c.args.buffer.now.rows c.args.env.now c.args.var.0) c.args.body.now c.loop-item.item-index c.item-item.result c.loop-item-test.true c.item-item.is c.loop-item.invariant
    (c.is_item_settled.ensures c.if-not-is_item_settled.false)

pub is_settled-returns : goal.is_settled-returns
is_settled-returns g t c = λ h. used_all (IsClosedBelow c.args.buffer.now.rows c.args.env.now c.args.var.0) c.args.body.now c.loop-item.item-index c.loop-item-test.false c.loop-item.invariant
