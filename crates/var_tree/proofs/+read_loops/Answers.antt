use Rattle.std.proofs.Common.{◌≡◌, map, arith, ap, sym, ◌∙◌}
use Rattle.std.proofs.lemmas.Result.{on_ok_weaker}
use Rattle.gcx_model.specs.declared.item.Item.{the_lemmas}
use Rattle.gcx_model.specs.Core.{If}
use Rattle.gcx_model.specs.CondView.{core_cond_tree}
use Rattle.gcx_model.specs.ItemView.{item_tree, body_tree}
use Rattle.var_tree.specs.Facts.{facts_of, with_loops}
use Rattle.var_tree.specs.Loops.{item_loops, loops}
use Rattle.var_tree.proofs.Reading.{read_more, read_two}
use Rattle.var_tree.proofs.+read_loops.Goals as goal

pub read_body-loop-item-preserved : goal.read_body-loop-item-preserved
read_body-loop-item-preserved t c =
    read_more (map facts_of c.loop-item.known.items) (map facts_of c.args.known.now.items) (map facts_of c.read_item.new.known.items) c.items-item-items.result.now c.loop-item.item-index c.args.outer.0 c.item-item.result
    (omega arith) c.item-item.is c.loop-item.invariant c.in_ok-read_item.ensures

pub read_item-returns-in_ok-read_body-in-If : goal.read_item-returns-in_ok-read_body-in-If
read_item-returns-in_ok-read_body-in-If t c =
    let tree : item_tree c.args.item.now ≡ If (core_cond_tree c.in-If.cond) (body_tree c.in-If.then) (body_tree c.in-If.other) = grind (arith, the_lemmas) in
    on_ok_weaker c.read_body-in-If-2.result
    (λ (h : map facts_of c.read_body-in-If-2.new.known.items ≡ with_loops (map facts_of c.read_body-in-If.new.known.items) (loops (body_tree c.in-If.other) c.args.outer.0)).
    read_two (map facts_of c.args.known.now.items) (map facts_of c.read_body-in-If.new.known.items) (map facts_of c.read_body-in-If-2.new.known.items) (body_tree c.in-If.then) (body_tree c.in-If.other) c.args.outer.0
    c.in_ok-read_body-in-If.ensures h
    ∙ ap (λ i. with_loops (map facts_of c.args.known.now.items) (item_loops i c.args.outer.0)) (sym tree))
    c.read_body-in-If-2.ensures
