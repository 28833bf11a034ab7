use Rattle.std.proofs.Common.{◌≡◌, take}
use Rattle.trace_check.specs.Reaching.{covers}
use Rattle.trace_check.specs.Wanting.{set_where}
use Rattle.trace_check.proofs.leaving.set_all.Given as goal

abbrev pub invariant-loop-range : goal.invariant-loop-range
invariant-loop-range l = l.last ≡ set_where (covers (take l.range-index l.ranges)) l.number l.fn.last
