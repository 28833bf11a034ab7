use Rattle.std.proofs.Common.{◌≡◌, take}
use Rattle.time_laws.specs.Checking.{fitted, line_ends}
use Rattle.trace_check.proofs.check.line_ends.Given as goal

abbrev pub invariant-loop-byte : goal.invariant-loop-byte
invariant-loop-byte l = l.count ≡ fitted (line_ends (take l.byte-index l.text))
