use Rattle.std.proofs.Common.{◌-◌, length}
use Rattle.doc_machine.specs.Machine.{scan_state}
use Rattle.doc_parts.specs.Reading.{Moves}
use Rattle.doc_parts.proofs.whole.read_front.Given as goal

abbrev pub invariant-loop-n : goal.invariant-loop-n
invariant-loop-n l = Moves l.limits (scan_state l.fn.m) l.text l.at (scan_state l.m)

abbrev pub decreases-loop-n : goal.decreases-loop-n
decreases-loop-n l = length l.text - l.at
