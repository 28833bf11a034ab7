use Rattle.std.proofs.Common.{◌++◌, ap, sym, ◌∙◌, arith, true, false, append-nil}
use Rattle.doc_tree.proofs.Below.{passing_more, passing_none, passing_all}
use Rattle.doc_tree.proofs.sets.put_passing.Goals as goal
use Rattle.doc_tree.proofs.sets.put_passing.Goals.{then-content_passes+in_ok-push, else-content_passes}

pub loop-index-init : goal.loop-index-init
loop-index-init c = record { to = omega arith; put = sym (ap (λ l. c.args.found.now.items ++ l) (passing_none c.args.rows.now c.args.test.now c.args.from c.args.from (omega arith)) ∙ append-nil c.args.found.now.items) }

pub loop-index-preserved : goal.loop-index-preserved
loop-index-preserved c = record {
  to = let t = c.loop-index-test.true in omega arith;
  put = elim c.if-content_passes.branch [
    | then-content_passes+in_ok-push w ↦
        ap (λ v. v.items) w.found-is ∙ (w.in_ok-push.ensures.items
        ∙ passing_more c.args.rows.now c.args.test.now c.args.from c.loop-index.index c.index-rows-index.result true c.args.found.now.items c.loop-index.found.items c.requires.nested c.loop-index.auto.index (let t = c.loop-index-test.true in let u = c.requires.within in omega arith) (sym c.content_passes.ensures ∙ w.if-content_passes.true) c.loop-index.invariant.put)
    | else-content_passes w ↦
        ap (λ v. v.items) w.found-is
        ∙ passing_more c.args.rows.now c.args.test.now c.args.from c.loop-index.index c.index-rows-index.result false c.args.found.now.items c.loop-index.found.items c.requires.nested c.loop-index.auto.index (let t = c.loop-index-test.true in let u = c.requires.within in omega arith) (sym c.content_passes.ensures ∙ w.if-content_passes.false) c.loop-index.invariant.put
  ];
}

pub returns : goal.returns
returns c = c.loop-index.invariant.put ∙ ap (λ l. c.args.found.now.items ++ l) (passing_all c.args.rows.now c.args.test.now c.args.from c.loop-index.index c.args.end c.loop-index.auto.index c.loop-index-test.false c.loop-index.invariant.to)
