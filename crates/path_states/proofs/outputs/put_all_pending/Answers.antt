use Rattle.path_states.specs.Active.{Waits}
use Rattle.path_states.proofs.Gaining.{gains_start, gains_next, gains_all}
use Rattle.path_states.proofs.outputs.put_all_pending.Goals as goal

pub loop-number-init : goal.loop-number-init
loop-number-init c = gains_start c.args.pending.now.items (Waits c.args.tree.now)

pub loop-number-preserved : goal.loop-number-preserved
loop-number-preserved c = gains_next c.args.pending.now.items c.loop-number.pending.items c.put_pending.new.pending.items c.args.active.now (Waits c.args.tree.now) c.loop-number.number-index c.loop-number-test.true c.loop-number.invariant c.in_ok-put_pending.ensures

pub returns : goal.returns
returns c = gains_all c.args.pending.now.items c.loop-number.pending.items c.args.active.now (Waits c.args.tree.now) c.loop-number.number-index c.loop-number-test.false c.loop-number.invariant
