use Rattle.std.proofs.Common.{ap, sym, ◌∙◌, subst, ℕ, List, true, false, arith}
use Rattle.doc_tree.proofs.Children.{Finds, finds_none, finds_more, finds_all}
use Rattle.doc_tree.proofs.sets.put_children.Goals as goal
use Rattle.doc_tree.proofs.sets.put_children.Goals.{then-content_passes+in_ok-push, else-content_passes}

pub loop-next-init : goal.loop-next-init
loop-next-init c = finds_none c.args.rows.now c.args.test.now c.args.node c.args.found.now.items c.requires.nested

pub loop-next-preserved : goal.loop-next-preserved
loop-next-preserved c = elim c.if-content_passes.branch [
  | then-content_passes+in_ok-push w ↦
      subst (λ (l : List ℕ). Finds c.args.rows.now c.args.test.now c.args.node c.end_of-next.result c.args.found.now.items l) (sym (ap (λ v. v.items) w.found-is ∙ w.in_ok-push.ensures.items))
      (finds_more c.args.rows.now c.args.test.now c.args.node c.loop-next.next c.end_of-next.result c.args.found.now.items c.loop-next.found.items c.index-rows-next.result true c.requires.nested c.loop-next.invariant (let t = c.loop-next-test.true in let e = c.end_of-end.ensures in omega arith) (sym c.content_passes.ensures ∙ w.if-content_passes.true) c.end_of-next.ensures)
  | else-content_passes w ↦
      subst (λ (l : List ℕ). Finds c.args.rows.now c.args.test.now c.args.node c.end_of-next.result c.args.found.now.items l) (sym (ap (λ v. v.items) w.found-is))
      (finds_more c.args.rows.now c.args.test.now c.args.node c.loop-next.next c.end_of-next.result c.args.found.now.items c.loop-next.found.items c.index-rows-next.result false c.requires.nested c.loop-next.invariant (let t = c.loop-next-test.true in let e = c.end_of-end.ensures in omega arith) (sym c.content_passes.ensures ∙ w.if-content_passes.false) c.end_of-next.ensures)
]

pub returns : goal.returns
returns c = finds_all c.args.rows.now c.args.test.now c.args.node c.loop-next.next c.args.found.now.items c.loop-next.found.items c.requires.nested c.loop-next.invariant (let t = c.loop-next-test.false in let e = c.end_of-end.ensures in omega arith)
