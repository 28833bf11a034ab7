use Rattle.path_states.specs.Active.{Tells}
use Rattle.path_states.specs.State.{own_roles}
use Rattle.path_states.proofs.Gaining.{gains_start, gains_next, gains_all}
use Rattle.path_states.proofs.outputs.put_own.Goals as goal

pub loop-number-init : goal.loop-number-init
loop-number-init c = (gains_start c.args.roles.now.items (Tells own_roles c.args.tree.now), λ h. h)

pub loop-number-preserved : goal.loop-number-preserved
loop-number-preserved c = (
  gains_next c.args.roles.now.items c.loop-number.roles.items c.put_own_of.new.numbers.items c.args.active.now (Tells own_roles c.args.tree.now) c.loop-number.number-index c.loop-number-test.true c.loop-number.invariant.0 c.in_ok-put_own_of.ensures.gains,
  λ h. c.in_ok-put_own_of.ensures.climbs (c.loop-number.invariant.1 h),
)

pub returns : goal.returns
returns c = record {
  gains = gains_all c.args.roles.now.items c.loop-number.roles.items c.args.active.now (Tells own_roles c.args.tree.now) c.loop-number.number-index c.loop-number-test.false c.loop-number.invariant.0;
  climbs = c.loop-number.invariant.1;
}
