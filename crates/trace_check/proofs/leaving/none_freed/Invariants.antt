use Rattle.std.proofs.Common.{◌≡◌, [], suc, replicate}
use Rattle.trace_check.specs.Wanting.{lists_in}
use Rattle.trace_check.proofs.leaving.none_freed.Given as goal

abbrev pub invariant-loop : goal.invariant-loop
invariant-loop l = lists_in l.freed.items ≡ replicate (suc l.counter) []
