use Rattle.std.proofs.Common.{◌≡◌, arith, ap, sym, ◌∙◌}
use Rattle.gcx_model.specs.declared.item.Item.{the_lemmas}
use Rattle.gcx_model.specs.declared.item.Item as code
use Rattle.gcx_model.specs.Core.{BodyTree, For}
use Rattle.gcx_model.specs.ItemView.{body_tree, item_trees, item_tree}
use Rattle.gcx_model.specs.Placed.{add_offs, place_item}
use Rattle.signoff_place.specs.Ends.{ends_of}
use Rattle.signoff_place.proofs.Placing.{placed_more, placed_all}
use Rattle.signoff_place.proofs.place.+place_statements.Goals as goal

pub placed_body-loop-item-preserved : goal.placed_body-loop-item-preserved
placed_body-loop-item-preserved t c =
    placed_more (ends_of c.args.ends.now) (item_trees c.loop-item.placed) (item_trees c.push.new.self) c.items-item-items.result.now c.loop-item.item-index c.item-item.result (item_tree c.in_ok-item.item)
    (omega arith) c.item-item.is c.loop-item.invariant c.in_ok-item.ensures c.in_ok-push.ensures.ok

pub placed_body-returns : goal.placed_body-returns
placed_body-returns t c =
    c.in_ok-put_ends.ensures
    ∙ ap (λ (d : BodyTree). add_offs d (ends_of c.args.ends.now c.args.var.0))
    (placed_all (ends_of c.args.ends.now) (item_trees c.loop-item.placed) c.items-item-items.result.now (item_trees c.args.body.now) c.loop-item.item-index c.loop-item-test.false c.loop-item.invariant c.items-item-items.ensures.trees)

pub placed_item-returns-in_ok-body-in-For : goal.placed_item-returns-in_ok-body-in-For
placed_item-returns-in_ok-body-in-For t c =
    let tree : item_tree c.args.item.now ≡ For c.in-For.var.0 c.in-For.from.0 c.in-For.step (body_tree c.in-For.body) = grind (arith, the_lemmas) in
    let placed : item_tree (code.For c.in-For.var c.in-For.from c.in_ok-step-in-For.step c.in_ok-body-in-For.body) ≡ For c.in-For.var.0 c.in-For.from.0 c.in_ok-step-in-For.step (body_tree c.in_ok-body-in-For.body) = grind (arith, the_lemmas) in
    placed
    ∙ ((λ i. For c.in-For.var.0 c.in-For.from.0 (c.in_ok-step-in-For.ensures i) (c.in_ok-body-in-For.ensures i))
    ∙ ap (place_item (ends_of c.args.ends.now)) (sym tree))
