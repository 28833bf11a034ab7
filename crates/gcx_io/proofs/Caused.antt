-- Faults and their counts.
use Rattle.std.proofs.Common.{◌≡◌, ◌≤◌, Err, arith}
use Rattle.gcx_io.specs.Tallies.{Tally, call_failed}
use Rattle.gcx_io.specs.Causes.{HasCause}

-- a call that fails by its number raises the count
pub failed_cause : {T E : Type 0} (before now : Tally) (e : E) → now ≡ call_failed before → before.faults ≤ now.faults → HasCause {T = T} {E = E} before.faults now.faults (Err e)
failed_cause before now e is later = record {
  later = later;
  failed = rw is (omega arith);
}
