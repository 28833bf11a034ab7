use Rattle.std.proofs.Common.{ap, ◌∙◌, sym, ◌≡◌, inl, inr, List, Option, option_map, map, subst}
use Rattle.std.specs.Prelude.{OnOk}
use Rattle.gcx_model.specs.Core.{OffTree}
use Rattle.gcx_model.specs.ItemView.{body_of, body_tree, item_tree, off_tree}
use Rattle.gcx_model.specs.Placed.{item_offs, offs_in}
use Rattle.spread_laws.specs.Tops.{put_tops}
use Rattle.buf_tree.proofs.Tables.{put_append, put_next, put_all, in_Write, in_Copy, in_For, in_If, in_Off}
use Rattle.buf_tree.proofs.spread.+read_statements.Goals as goal

pub put_item-returns-in-Write : goal.put_item-returns-in-Write
put_item-returns-in-Write t c = elim c.in-Write.is [
  | inl w ↦ sym (ap (λ os. put_tops os (map (option_map off_tree) c.args.tops.now.items)) (in_Write _ w.0 w.1))
  | inr w ↦ sym (ap (λ os. put_tops os (map (option_map off_tree) c.args.tops.now.items)) (in_Copy _ w.0 w.1))
]

pub put_item-returns-in-For : goal.put_item-returns-in-For
put_item-returns-in-For t c = subst (λ (os : List OffTree). OnOk c.put_body.result (map (option_map off_tree) c.put_body.new.tops.items ≡ put_tops os (map (option_map off_tree) c.args.tops.now.items)))
    (sym (in_For _ c.in-For.var c.in-For.from c.in-For.step c.in-For.body c.in-For.is)) c.put_body.ensures

pub put_item-returns-in_ok-put_body-in-If : goal.put_item-returns-in_ok-put_body-in-If
put_item-returns-in_ok-put_body-in-If t c =
    let ts = map (option_map off_tree) c.args.tops.now.items in
    let this = offs_in (body_tree c.in-If.then) in
    let other = offs_in (body_tree c.in-If.other) in
    let both : put_tops other (map (option_map off_tree) c.put_body-in-If.new.tops.items) ≡ put_tops (item_offs (item_tree c.args.item.now)) ts =
    ap (put_tops other) c.in_ok-put_body-in-If.ensures
    ∙ sym (put_append this other ts)
    ∙ ap (λ os. put_tops os ts) (sym (in_If c.args.item.now c.in-If.cond c.in-If.then c.in-If.other c.in-If.is)) in
    subst (λ (z : List (Option OffTree)). OnOk c.put_body-in-If-2.result (map (option_map off_tree) c.put_body-in-If-2.new.tops.items ≡ z)) both c.put_body-in-If-2.ensures

pub put_item-returns-in-Off : goal.put_item-returns-in-Off
put_item-returns-in-Off t c = subst (λ (os : List OffTree). OnOk c.put_top.result (map (option_map off_tree) c.put_top.new.tops.items ≡ put_tops os (map (option_map off_tree) c.args.tops.now.items)))
    (sym (in_Off _ c.in-Off.off c.in-Off.is)) c.put_top.ensures

pub put_body-loop-item-preserved : goal.put_body-loop-item-preserved
put_body-loop-item-preserved t c = put_next c.items-item-items.result.now c.loop-item.item-index c.item-item.result _ _ _ c.loop-item-test.true c.item-item.is c.loop-item.invariant c.in_ok-put_item.ensures

pub put_body-returns : goal.put_body-returns
put_body-returns t c =
    put_all c.items-item-items.result.now c.loop-item.item-index _ _ c.loop-item-test.false c.loop-item.invariant
    ∙ ap (λ z. put_tops (offs_in (body_of z)) (map (option_map off_tree) c.args.tops.now.items)) c.items-item-items.ensures.trees
