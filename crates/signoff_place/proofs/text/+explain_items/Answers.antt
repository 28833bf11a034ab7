use Rattle.std.proofs.Common.{◌≡◌, ◌++◌, ℕ, suc, codes, string_bytes, arith, ap, sym, ◌∙◌}
use Rattle.std.proofs.lemmas.Result.{on_ok_weaker}
use Rattle.gcx_model.specs.declared.item.Item.{the_lemmas}
use Rattle.gcx_model.specs.Core.{ItemTree, If}
use Rattle.gcx_model.specs.CondView.{core_cond_tree}
use Rattle.gcx_model.specs.ItemView.{item_tree, body_tree}
use Rattle.xq_normal.specs.ConditionText.{cond_text}
use Rattle.signoff_place.specs.Explained.{body_text, item_line, item_text}
use Rattle.signoff_place.proofs.Texts.{items_more, four}
use Rattle.signoff_place.proofs.text.+explain_items.Goals as goal

pub put_body-loop-item-preserved : goal.put_body-loop-item-preserved
put_body-loop-item-preserved t c =
    items_more c.args.depth (string_bytes c.args.out.now) (string_bytes c.loop-item.out) (string_bytes c.put_item.new.out) c.items-item-items.result.now c.loop-item.item-index c.item-item.result
    (omega arith) c.item-item.is c.loop-item.invariant c.in_ok-put_item.ensures

pub put_item-returns-in_ok-put_else_line-in-If : goal.put_item-returns-in_ok-put_else_line-in-If
put_item-returns-in_ok-put_else_line-in-If t c =
    let tree : item_tree c.args.item.now ≡ If (core_cond_tree c.in-If.cond) (body_tree c.in-If.then) (body_tree c.in-If.other) = grind (arith, the_lemmas) in
    let inside : c.in_ok-inside-in-If.inside ≡ suc c.args.depth = c.in_ok-inside-in-If.ensures in
    on_ok_weaker c.put_body-in-If-2.result
    (λ (h : string_bytes c.put_body-in-If-2.new.out ≡ string_bytes c.put_else_line.new.out ++ body_text (body_tree c.in-If.other) c.in_ok-inside-in-If.inside).
    four (string_bytes c.args.out.now) (string_bytes c.put_if_line.new.out) (string_bytes c.put_body-in-If.new.out) (string_bytes c.put_else_line.new.out) (string_bytes c.put_body-in-If-2.new.out)
    (item_line c.args.depth (codes "if " ++ cond_text (core_cond_tree c.in-If.cond))) (body_text (body_tree c.in-If.then) (suc c.args.depth)) (item_line c.args.depth (codes "else")) (body_text (body_tree c.in-If.other) (suc c.args.depth))
    c.in_ok-put_if_line-in-If.ensures
    (c.in_ok-put_body-in-If.ensures ∙ ap (λ (n : ℕ). string_bytes c.put_if_line.new.out ++ body_text (body_tree c.in-If.then) n) inside)
    c.in_ok-put_else_line-in-If.ensures
    (h ∙ ap (λ (n : ℕ). string_bytes c.put_else_line.new.out ++ body_text (body_tree c.in-If.other) n) inside)
    ∙ ap (λ (i : ItemTree). string_bytes c.args.out.now ++ item_text i c.args.depth) (sym tree))
    c.put_body-in-If-2.ensures
