use Rattle.std.proofs.Common.{◌≡◌, [], replicate}
use Rattle.trace_check.proofs.given.none_given.Given as goal

abbrev pub invariant-loop : goal.invariant-loop
invariant-loop l = l.given.items ≡ replicate l.counter []
