use Rattle.path_states.proofs.Branching.{have_all, have_more, have_none}
use Rattle.path_states.proofs.branches.all_branches.Goals as goal

pub loop-number-init : goal.loop-number-init
loop-number-init c = λ up. have_none c.args.tree.now c.args.names.now c.new-branches.result.items c.new-branches.ensures.items

pub loop-number-preserved : goal.loop-number-preserved
loop-number-preserved c = λ up. have_more c.args.tree.now c.args.names.now c.args.numbers.now c.loop-number.number-index c.loop-number.branches.items c.put_branch.new.branches.items c.loop-number-test.true (c.loop-number.invariant up) (c.in_ok-put_branch.ensures up)

pub returns : goal.returns
returns c = λ up. have_all c.args.tree.now c.args.names.now c.args.numbers.now c.loop-number.number-index c.loop-number.branches.items c.loop-number-test.false (c.loop-number.invariant up)
