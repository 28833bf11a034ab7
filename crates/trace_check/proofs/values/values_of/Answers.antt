use Rattle.trace_check.proofs.Settles.{values_more}
use Rattle.trace_check.proofs.values.values_of.Goals as goal

pub loop-node-preserved : goal.loop-node-preserved
loop-node-preserved c =
    values_more c.args.timed.now c.args.nodes.now c.loop-node.node-index c.loop-node.values.items c.push.new.self.items c.closed_at.result c.in_ok-value.field-0 c.loop-node-test.true c.loop-node.invariant
    c.in_ok-push.ensures.items c.closed_at.ensures c.in_ok-value.ensures
