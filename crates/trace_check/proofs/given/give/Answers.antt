use Rattle.trace_check.proofs.Roles.{given_ranges}
use Rattle.trace_check.proofs.given.give.Goals as goal

pub loop-range-preserved : goal.loop-range-preserved
loop-range-preserved c = record {
  given = given_ranges c.args.ranges.now c.loop-range.range-index _ c.args.role c.args.given.now c.loop-range.given c.give_range.new.given c.loop-range-test.true
      c.loop-range.invariant.given c.in_ok-give_range.ensures.given;
  below = c.in_ok-give_range.ensures.below;
}
