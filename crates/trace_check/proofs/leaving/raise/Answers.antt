use Rattle.std.proofs.Common.{◌≡◌, ◌-◌, length, get_or, max, rules, arith}
use Rattle.std.proofs.lemmas.List.{length-set}
use Rattle.trace_check.proofs.RaisedOn.{many_by, raise_all, raise_less, raise_none, raise_step}
use Rattle.trace_check.proofs.leaving.raise.Goals as goal

pub loop-node-init : goal.loop-node-init
loop-node-init c = record {
  raised = λ f e. raise_none c.args.tree.now c.requires.grown f c.args.last.now (length c.args.last.now) (let m = many_by c.args.tree.now f c.args.last.now e in omega (arith, m)) e;
  within = omega arith;
}

pub loop-node-preserved-then-parent-node : goal.loop-node-preserved-then-parent-node
loop-node-preserved-then-parent-node c =
    let is : c.max.result ≡ max (get_or c.loop-node.last c.parent-parent.result 0) (get_or c.loop-node.last (c.loop-node.node - 1) 0) = search rules in
    record {
      raised = λ f e. raise_step c.args.tree.now c.requires.grown f c.loop-node.last c.loop-node.node c.parent-parent.result c.max.result c.loop-node-test.true c.loop-node.invariant.within
          (c.loop-node.invariant.raised f e) c.parent-parent.ensures is;
      within = let w = c.loop-node.invariant.within in let l = length-set c.loop-node.last c.parent-parent.result c.max.result in omega (arith, w, l);
    }

pub loop-node-preserved : goal.loop-node-preserved
loop-node-preserved c = record {
  raised = λ f e.
      let low = raise_less c.args.tree.now c.requires.grown f c.loop-node.last c.loop-node.node c.parent-parent.result c.loop-node-test.true c.loop-node.invariant.within (c.loop-node.invariant.raised f e) c.parent-parent.ensures in
      let not = c.if-parent-node.false in
      absurd (omega (arith, low, not));
  within = let w = c.loop-node.invariant.within in omega (arith, w);
}

pub returns : goal.returns
returns c f e = raise_all c.args.tree.now c.requires.grown f c.loop-node.last c.loop-node.node c.loop-node-test.false (c.loop-node.invariant.raised f e)
