use Rattle.path_states.specs.Active.{Tells}
use Rattle.path_states.specs.State.{whole_roles}
use Rattle.path_states.proofs.Gaining.{gains_start, gains_next, gains_all}
use Rattle.path_states.proofs.outputs.put_all_whole.Goals as goal

pub loop-number-init : goal.loop-number-init
loop-number-init c = (gains_start c.args.numbers.now.items (Tells whole_roles c.args.tree.now), λ h. h)

pub loop-number-preserved : goal.loop-number-preserved
loop-number-preserved c = (
  gains_next c.args.numbers.now.items c.loop-number.numbers.items c.put_whole.new.numbers.items c.args.active.now (Tells whole_roles c.args.tree.now) c.loop-number.number-index c.loop-number-test.true c.loop-number.invariant.0 c.in_ok-put_whole.ensures.gains,
  λ h. c.in_ok-put_whole.ensures.climbs (c.loop-number.invariant.1 h),
)

pub returns : goal.returns
returns c = record {
  gains = gains_all c.args.numbers.now.items c.loop-number.numbers.items c.args.active.now (Tells whole_roles c.args.tree.now) c.loop-number.number-index c.loop-number-test.false c.loop-number.invariant.0;
  climbs = c.loop-number.invariant.1;
}
