use Rattle.std.proofs.Common.{get_or, ◌≤◌, ◌-◌, arith}
use Rattle.matcher.specs.declared.signs.Sign.{Sign}
use Rattle.matcher.proofs.Turns.{turn_down, turn_before_place}
use Rattle.matcher.proofs.signs.place.Goals as goal

abbrev none : Sign
none = record { role = 0; level = 0; steps = 0 }

pub loop-place-preserved : goal.loop-place-preserved
loop-place-preserved c = record {
  within = let w = c.loop-place.invariant.within in omega arith;
  behind =
      let l = c.if-signs-place.true in
      let h : c.args.role ≤ (get_or c.args.signs.now (c.loop-place.place - 1) none).role = omega arith in
      turn_down c.args.signs.now c.loop-place.place c.args.role none c.loop-place-test.true c.loop-place.invariant.within h c.loop-place.invariant.behind;
}

pub returns-else-signs-place-clause-before : goal.returns-else-signs-place-clause-before
returns-else-signs-place-clause-before c = λ t. turn_before_place c.args.signs.now c.loop-place.place c.args.role none t c.loop-place.invariant.within (λ l. c.if-signs-place.false)
