use Rattle.std.proofs.Common.{◌≡◌, drop}
use Rattle.projector.specs.Late.{passed_in}
use Rattle.projector.proofs.LateRows.{Making}
use Rattle.projector.proofs.late.make_rows.Given as goal

abbrev pub invariant-loop-element : goal.invariant-loop-element
invariant-loop-element g l =
    Making (passed_in l.bytes l.passed) (passed_in l.bytes (drop l.element-index l.passed)) l.fn.buffer l.buffer l.at × (l.buffer.loans ≡ l.fn.buffer.loans)
