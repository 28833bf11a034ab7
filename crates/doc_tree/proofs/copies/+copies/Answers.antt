use Rattle.std.proofs.Common.{List, ℕ, sym, ◌∙◌, subst, arith}
use Rattle.doc_tree.proofs.Copying.{Writes, writes_none, writes_child, writes_all, parent_read, element_holder, element_copy, text_copy, text_behind}
use Rattle.doc_tree.proofs.copies.+copies.Goals as goal

pub put_below-loop-next-init : goal.put_below-loop-next-init
put_below-loop-next-init t c = writes_none c.args.rows.now c.args.node c.args.out.now.items c.requires.nested c.requires.there

pub put_below-loop-next-preserved : goal.put_below-loop-next-preserved
put_below-loop-next-preserved t c =
    let before : List ℕ = c.args.out.now.items in
    subst (λ (o : List ℕ). Writes c.args.rows.now c.args.node c.in_ok-next.next before o) (sym c.in_ok-next.ensures.written)
    (writes_child c.args.rows.now c.args.node c.loop-next.next c.in_ok-next.next before c.loop-next.out.items c.requires.nested c.loop-next.invariant c.loop-next-test.true
    (parent_read c.args.rows.now c.loop-next.next c.index-rows-next.result c.loop-next-test.true ∙ c.if-rows-next.true) c.in_ok-next.ensures.behind)

pub put_below-returns-else-rows-next-clause-written : goal.put_below-returns-else-rows-next-clause-written
put_below-returns-else-rows-next-clause-written t c =
    (writes_all c.args.rows.now c.args.node c.loop-next.next c.args.out.now.items c.loop-next.out.items c.requires.nested c.loop-next.invariant
    (λ h e. c.if-rows-next.false (sym (parent_read c.args.rows.now c.loop-next.next c.index-rows-next.result h) ∙ e))).0

pub put_below-returns-after-loop-next-clause-written : goal.put_below-returns-after-loop-next-clause-written
put_below-returns-after-loop-next-clause-written t c =
    (writes_all c.args.rows.now c.args.node c.loop-next.next c.args.out.now.items c.loop-next.out.items c.requires.nested c.loop-next.invariant (λ h e. let f = c.loop-next-test.false in omega arith)).0

pub put_row-put_below-requires : goal.put_row-put_below-requires
put_row-put_below-requires t c = let h = c.requires.there in (let f = c.decreases in omega arith, (c.requires.nested, (omega arith, element_holder c.args.rows.now c.args.index c.index-rows-index.result c.in-Element.name c.requires.nested c.requires.there c.in-Element.is)))

pub put_row-returns-in_ok-put_end-in-Element-clause-written : goal.put_row-returns-in_ok-put_end-in-Element-clause-written
put_row-returns-in_ok-put_end-in-Element-clause-written t c =
    element_copy c.args.rows.now c.args.index c.index-rows-index.result c.in-Element.name _ _ _ _ c.requires.nested c.requires.there c.in-Element.is
    c.in_ok-put_start-in-Element.ensures.ok c.in_ok-next-in-Element.ensures.written c.in_ok-put_end-in-Element.ensures.ok

pub put_row-returns-in_ok-put_text-in-Text-clause-written : goal.put_row-returns-in_ok-put_text-in-Text-clause-written
put_row-returns-in_ok-put_text-in-Text-clause-written t c =
    text_copy c.args.rows.now c.args.index c.index-rows-index.result c.in-Text.text _ _ c.requires.nested c.requires.there c.in-Text.is c.in_ok-put_text-in-Text.ensures.ok

pub put_row-returns-in_ok-put_text-in-Text-clause-behind : goal.put_row-returns-in_ok-put_text-in-Text-clause-behind
put_row-returns-in_ok-put_text-in-Text-clause-behind t c = text_behind c.args.rows.now c.args.index c.index-rows-index.result c.in-Text.text c.requires.nested c.requires.there c.in-Text.is
