use Rattle.std.proofs.Common.{◌≡◌, ◌++◌, string_bytes}
use Rattle.signoff_place.specs.Explained.{spaces}
use Rattle.signoff_place.proofs.lines.put_spaces.Given as goal

abbrev pub invariant-loop : goal.invariant-loop
invariant-loop l = string_bytes l.out ≡ string_bytes l.fn.out ++ spaces l.counter
