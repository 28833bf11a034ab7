use Rattle.std.proofs.Common.{◌≡◌, ℕ, [], length}
use Rattle.signoff_place.specs.Ends.{ends_of}
use Rattle.signoff_place.proofs.statements.no_ends.Given as goal

abbrev pub invariant-loop : goal.invariant-loop
invariant-loop l = record {
  empty : (x : ℕ) → ends_of l.ends.items x ≡ [];
  count : length l.ends.items ≡ l.counter;
}
