use Rattle.std.proofs.Common.{◌≤◌, ◌-◌, length}
use Rattle.doc_chars.specs.Blocks.{HasNoOther}
use Rattle.doc_chars.proofs.scan.first_other.Given as goal

abbrev pub invariant-loop-at : goal.invariant-loop-at
invariant-loop-at l = (l.at ≤ length l.bytes) × HasNoOther 0 l.at l.bytes

abbrev pub decreases-loop-at : goal.decreases-loop-at
decreases-loop-at l = length l.bytes - l.at
