use Rattle.std.proofs.Common.{List, map, sym, ◌∙◌, ap, subst, inl, refl}
use Rattle.gcx_model.specs.declared.item.Item.{Item}
use Rattle.gcx_model.specs.Core.{ItemTree}
use Rattle.gcx_model.specs.ItemView.{item_tree, body_of, off_tree}
use Rattle.gcx_model.specs.Members.{In}
use Rattle.gcx_model.specs.Placed.{item_offs, offs_in}
use Rattle.gcx_model.proofs.Folds.{fold_For}
use Rattle.buffer_tests.proofs.Offs.{among, fold_Off}
use Rattle.buffer_tests.proofs.buffers.+off_of.Goals as goal

pub returns-in-Some : goal.returns-in-Some
returns-in-Some t c =
    let o = off_tree c.in-Some.off.now in
    let folded = ap item_tree c.in-For.is ∙ fold_For c.in-For.var c.in-For.from c.in-For.step c.in-For.body in
    subst (λ (xs : List Item). In o (offs_in (body_of (map item_tree xs)))) c.items-item-items.ensures.same
    (among c.items-item-items.result.now c.loop-item.item-index c.item-item.result o c.loop-item-test.true c.item-item.is
    (subst (λ (i : ItemTree). In o (item_offs i)) (sym folded) c.in-Some.ensures))

pub returns-in-Off : goal.returns-in-Off
returns-in-Off t c =
    let o = off_tree c.in-Off.off in
    let folded = ap item_tree c.in-Off.is ∙ fold_Off c.in-Off.off in
    subst (λ (xs : List Item). In o (offs_in (body_of (map item_tree xs)))) c.items-item-items.ensures.same
    (among c.items-item-items.result.now c.loop-item.item-index c.item-item.result o c.loop-item-test.true c.item-item.is
    (subst (λ (i : ItemTree). In o (item_offs i)) (sym folded) (inl refl)))
