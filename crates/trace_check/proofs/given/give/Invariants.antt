use Rattle.std.proofs.Common.{suc, take, All}
use Rattle.trace_check.specs.Reaching.{covers}
use Rattle.trace_check.specs.Wanting.{AreBelow, IsGivenTo}
use Rattle.trace_check.proofs.given.give.Given as goal

abbrev pub invariant-loop-range : goal.invariant-loop-range
invariant-loop-range l = record {
  given : IsGivenTo l.role (covers (take l.range-index l.ranges)) l.fn.given l.given;
  below : All (AreBelow (suc l.role.0)) l.given;
}
