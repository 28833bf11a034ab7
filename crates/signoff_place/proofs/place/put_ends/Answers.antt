use Rattle.std.proofs.Common.{◌≡◌, List, map, arith, ap, ◌∙◌}
use Rattle.gcx_model.specs.declared.item.Item.{the_lemmas}
use Rattle.gcx_model.specs.declared.item.Item as code
use Rattle.gcx_model.specs.declared.item.Off.{Off}
use Rattle.gcx_model.specs.ItemView.{body_tree, item_trees, item_tree, off_tree}
use Rattle.gcx_model.specs.Placed.{add_offs}
use Rattle.signoff_place.proofs.Placing.{off_item, offs_more, offs_added}
use Rattle.signoff_place.proofs.place.put_ends.Goals as goal

pub loop-off-preserved : goal.loop-off-preserved
loop-off-preserved c =
    let is : item_tree (code.Off c.in_ok-copy.field-0) ≡ off_item (off_tree c.in_ok-copy.field-0) = grind (arith, the_lemmas) in
    offs_more (item_trees c.args.out.now) (item_trees c.loop-off.out) (item_trees c.push.new.self) c.offs_at-offs.result.now c.loop-off.off-index c.off-item.result (item_tree (code.Off c.in_ok-copy.field-0))
    (omega arith) c.off-item.is c.loop-off.invariant (is ∙ ap (λ (o : Off). off_item (off_tree o)) c.in_ok-copy.ensures) c.in_ok-push.ensures.ok

pub returns : goal.returns
returns c =
    offs_added (item_trees c.args.out.now) (item_trees c.loop-off.out) c.offs_at-offs.result.now c.loop-off.off-index c.loop-off-test.false c.loop-off.invariant
    ∙ ap (λ (os : List Off). add_offs (body_tree c.args.out.now) (map off_tree os)) c.offs_at-offs.ensures
