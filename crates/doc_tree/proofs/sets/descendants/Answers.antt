use Rattle.std.proofs.Common.{subst, sym, List, ℕ, get_or, refl}
use Rattle.doc_tree.proofs.Below.{Covers, covers_none, goes_more, goes_all}
use Rattle.doc_tree.proofs.sets.descendants.Goals as goal

pub loop-node-init : goal.loop-node-init
loop-node-init c f e = record {
  at = 0;
  left_is = e;
  covers = subst (λ (l : List ℕ). Covers c.args.rows.now c.args.test.now f 0 0 l) (sym c.new-found.ensures.items) (covers_none c.args.rows.now c.args.test.now f c.requires.nested);
}

pub loop-node-preserved : goal.loop-node-preserved
loop-node-preserved c f e =
    goes_more c.args.rows.now c.args.test.now f c.args.set.now c.loop-node.found.items c.put_passing.new.found.items c.loop-node.node-index (get_or c.args.set.now c.loop-node.node-index 0) c.loop-node.done c.max.result c.end_of-end.result c.max-done.result
    c.requires.nested c.loop-node-test.true refl (c.loop-node.invariant f e) c.end_of-end.ensures c.max.ensures c.in_ok-put_passing.ensures c.max-done.ensures

pub returns : goal.returns
returns c f e = goes_all c.args.rows.now c.args.test.now f c.args.set.now c.loop-node.found.items c.loop-node.node-index c.loop-node.done c.requires.nested c.loop-node-test.false (c.loop-node.invariant f e)
