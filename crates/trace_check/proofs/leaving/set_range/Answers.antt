use Rattle.std.proofs.Common.{◌<◌, length, set, inl, inr, ◌∙◌, ap, arith}
use Rattle.trace_check.proofs.Entries.{range_none, range_more, range_done}
use Rattle.trace_check.proofs.leaving.set_range.Goals as goal

pub loop-node-init : goal.loop-node-init
loop-node-init c = record { last = range_none c.args.range.first c.args.number c.args.last.now; from = omega arith; most = omega arith }

pub loop-node-preserved : goal.loop-node-preserved
loop-node-preserved c =
    let l : c.loop-node.node < length c.args.last.now = (let t = c.if-node-last.true in let e = c.loop-node.auto.last in omega (arith, t, e)) in
    record {
      last = ap (λ xs. set xs c.loop-node.node c.args.number) c.loop-node.invariant.last ∙ range_more c.args.range.first c.loop-node.node c.args.number c.args.last.now l c.loop-node.invariant.from;
      from = (let a = c.loop-node.invariant.from in omega (arith, a));
      most = (let a = c.loop-node-test.true in omega (arith, a));
    }

pub returns-else-node-last : goal.returns-else-node-last
returns-else-node-last c =
    c.loop-node.invariant.last
    ∙ range_done c.args.range c.loop-node.node c.args.number c.args.last.now c.loop-node.invariant.most (inr (let f = c.if-node-last.false in let e = c.loop-node.auto.last in omega (arith, f, e)))

pub returns-after-loop-node : goal.returns-after-loop-node
returns-after-loop-node c =
    c.loop-node.invariant.last
    ∙ range_done c.args.range c.loop-node.node c.args.number c.args.last.now c.loop-node.invariant.most (inl (let f = c.loop-node-test.false in omega (arith, f)))
