use Rattle.std.proofs.Common.{◌≡◌, ◌++◌, ◌<◌, ◌≤◌, ◌^◌, string_bytes}
use Rattle.xq_print.specs.Literals.{places, without_zeros}
use Rattle.xq_print.proofs.literal.put_places.Given as goal

abbrev pub invariant-loop-rest : goal.invariant-loop-rest
invariant-loop-rest l = record {
  small : l.rest < 10 ^ l.left;
  few : l.left ≤ 18;
  put : string_bytes l.out ++ without_zeros (places l.left l.rest) ≡ string_bytes l.fn.out ++ without_zeros (places 18 l.fraction);
}

abbrev pub decreases-loop-rest : goal.decreases-loop-rest
decreases-loop-rest l = l.left
