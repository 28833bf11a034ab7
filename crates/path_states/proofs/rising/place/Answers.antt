use Rattle.std.proofs.Common.{arith}
use Rattle.path_states.proofs.Climbing.{place_down, parts_at}
use Rattle.path_states.proofs.rising.place.Goals as goal

pub loop-place-preserved : goal.loop-place-preserved
loop-place-preserved c = (let l = c.loop-place.invariant.0 in omega arith, place_down c.args.numbers.now c.loop-place.place c.args.number c.loop-place-test.true c.loop-place.invariant.0 c.if-numbers-place.true c.loop-place.invariant.1)

pub returns-after-loop-place-clause-parts : goal.returns-after-loop-place-clause-parts
returns-after-loop-place-clause-parts c = λ h. parts_at c.args.numbers.now c.loop-place.place c.args.number h c.loop-place.invariant.0 (λ l. absurd (omega arith)) c.loop-place.invariant.1

pub returns-else-numbers-place-clause-parts : goal.returns-else-numbers-place-clause-parts
returns-else-numbers-place-clause-parts c = λ h. parts_at c.args.numbers.now c.loop-place.place c.args.number h c.loop-place.invariant.0 (λ l. c.if-numbers-place.false) c.loop-place.invariant.1
