use Rattle.path_states.proofs.Branching.{each_all, each_more, each_none}
use Rattle.path_states.proofs.branches.branches_of.Goals as goal

pub loop-state-init : goal.loop-state-init
loop-state-init c = λ up. each_none c.args.tree.now c.args.names.now c.new-all.result.items c.new-all.ensures.items

pub loop-state-preserved : goal.loop-state-preserved
loop-state-preserved c = λ up. each_more c.args.tree.now c.args.names.now c.args.tree.now c.loop-state.state-index c.state-item.result c.loop-state.all.items c.push.new.self.items c.in_ok-branches.branches c.loop-state-test.true c.state-item.is c.in_ok-push.ensures.items (c.in_ok-branches.ensures up) (c.loop-state.invariant up)

pub returns : goal.returns
returns c = λ up. each_all c.args.tree.now c.args.names.now c.args.tree.now c.loop-state.state-index c.loop-state.all.items c.loop-state-test.false (c.loop-state.invariant up)
