use Rattle.std.proofs.Common.{refl}
use Rattle.path_states.proofs.Climbing.{next_given}
use Rattle.matcher.proofs.roles.given_of.Goals as goal

pub loop-number-preserved : goal.loop-number-preserved
loop-number-preserved c = λ h. next_given c.args.numbers.now c.loop-number.given c.put_role.new.given c.loop-number.number-index _ h c.loop-number-test.true refl (c.loop-number.invariant h) c.in_ok-put_role.ensures
