use Rattle.std.proofs.Common.{get_or}
use Rattle.std.proofs.lemmas.List.{get_or_default}
use Rattle.path_states.proofs.Gaining.{gains_start, gains_more, gains_all}
use Rattle.matcher.specs.Frames.{IsRoleOf}
use Rattle.matcher.specs.declared.frames.Found.{Found}
use Rattle.matcher.proofs.roles.put_first.Goals as goal

pub loop-one-init : goal.loop-one-init
loop-one-init c = (gains_start c.args.roles.now.items IsRoleOf, λ h. h)

pub loop-one-preserved : goal.loop-one-preserved
loop-one-preserved c =
    let none : Found = record { role = 0; level = 0 } in
    let one : Found = get_or c.args.found.now c.loop-one.one-index none in (
      gains_more c.args.roles.now.items c.loop-one.roles.items c.rise.new.numbers.items c.args.found.now IsRoleOf c.loop-one.one-index one c.loop-one-test.true
          (get_or_default c.args.found.now c.loop-one.one-index none one c.loop-one-test.true) c.loop-one.invariant.0 c.in_ok-rise.ensures.gains,
      λ h. c.in_ok-rise.ensures.climbs (c.loop-one.invariant.1 h),
    )

pub returns : goal.returns
returns c = record {
  gains = gains_all c.args.roles.now.items c.loop-one.roles.items c.args.found.now IsRoleOf c.loop-one.one-index c.loop-one-test.false c.loop-one.invariant.0;
  climbs = c.loop-one.invariant.1;
}
