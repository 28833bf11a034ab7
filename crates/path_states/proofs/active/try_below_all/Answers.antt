use Rattle.path_states.specs.Active.{Under}
use Rattle.path_states.specs.Branches.{steps_by}
use Rattle.path_states.proofs.Gaining.{gains_start, gains_next, gains_all}
use Rattle.path_states.proofs.active.try_below_all.Goals as goal

pub loop-number-init : goal.loop-number-init
loop-number-init c = λ index kind is. gains_start c.args.active.now.items (Under (steps_by c.args.axis) c.args.tree.now kind)

pub loop-number-preserved : goal.loop-number-preserved
loop-number-preserved c = λ index kind is. gains_next c.args.active.now.items c.loop-number.active.items c.try_below.new.active.items c.args.above.now (Under (steps_by c.args.axis) c.args.tree.now kind) c.loop-number.number-index c.loop-number-test.true (c.loop-number.invariant index kind is) (c.in_ok-try_below.ensures index kind is)

pub returns : goal.returns
returns c = λ index kind is. gains_all c.args.active.now.items c.loop-number.active.items c.args.above.now (Under (steps_by c.args.axis) c.args.tree.now kind) c.loop-number.number-index c.loop-number-test.false (c.loop-number.invariant index kind is)
