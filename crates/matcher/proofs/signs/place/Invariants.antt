use Rattle.std.proofs.Common.{◌≤◌, length, drop}
use Rattle.gcx_model.specs.Members.{In}
use Rattle.matcher.specs.declared.signs.Sign.{Sign}
use Rattle.matcher.proofs.signs.place.Given as goal

abbrev pub invariant-loop-place : goal.invariant-loop-place
invariant-loop-place l = record {
  within : l.place ≤ length l.signs;
  behind : (s : Sign) → In s (drop l.place l.signs) → l.role ≤ s.role;
}

abbrev pub decreases-loop-place : goal.decreases-loop-place
decreases-loop-place l = l.place
