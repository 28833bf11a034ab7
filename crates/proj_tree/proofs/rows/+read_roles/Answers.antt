use Rattle.std.proofs.Common.{◌≡◌, ◌++◌, map, arith, ap, sym, ◌∙◌}
use Rattle.std.proofs.lemmas.Result.{on_ok_weaker}
use Rattle.gcx_model.specs.declared.item.Item.{the_lemmas}
use Rattle.gcx_model.specs.Core.{If}
use Rattle.gcx_model.specs.CondView.{core_cond_tree}
use Rattle.gcx_model.specs.ItemView.{item_tree, body_tree}
use Rattle.gcx_model.specs.PlanView.{role_row_tree}
use Rattle.gcx_model.specs.Roles.{cond_rows, item_rows, rows}
use Rattle.proj_tree.proofs.Reading.{item_more, three}
use Rattle.proj_tree.proofs.rows.+read_roles.Goals as goal

pub put_body-loop-item-preserved : goal.put_body-loop-item-preserved
put_body-loop-item-preserved t c =
    item_more (map role_row_tree c.args.out.now) (map role_row_tree c.loop-item.out) (map role_row_tree c.put_item.new.out) c.items-item-items.result.now c.loop-item.item-index c.item-item.result
    (omega arith) c.item-item.is c.loop-item.invariant c.in_ok-put_item.ensures

pub put_item-returns-in_ok-put_body-in-If : goal.put_item-returns-in_ok-put_body-in-If
put_item-returns-in_ok-put_body-in-If t c =
    let tree : item_tree c.args.item.now ≡ If (core_cond_tree c.in-If.cond) (body_tree c.in-If.then) (body_tree c.in-If.other) = grind (arith, the_lemmas) in
    on_ok_weaker c.put_body-in-If-2.result
    (λ (h : map role_row_tree c.put_body-in-If-2.new.out ≡ map role_row_tree c.put_body-in-If.new.out ++ rows (body_tree c.in-If.other)).
    three (map role_row_tree c.args.out.now) (map role_row_tree c.put_cond.new.out) (map role_row_tree c.put_body-in-If.new.out) (map role_row_tree c.put_body-in-If-2.new.out)
    (cond_rows (core_cond_tree c.in-If.cond)) (rows (body_tree c.in-If.then)) (rows (body_tree c.in-If.other)) c.in_ok-put_cond-in-If.ensures c.in_ok-put_body-in-If.ensures h
    ∙ ap (λ i. map role_row_tree c.args.out.now ++ item_rows i) (sym tree))
    c.put_body-in-If-2.ensures
