use Rattle.std.proofs.Common.{◌≡◌, ◌++◌, length}
use Rattle.buf_trace.specs.Lines.{IsGiven}
use Rattle.buf_trace.specs.Reading.{behind, roles_text}
use Rattle.buf_trace.proofs.read.read_roles.Given as goal

abbrev pub invariant-loop-rest : goal.invariant-loop-rest
invariant-loop-rest l = (behind l.fn.text ≡ roles_text l.given ++ behind l.rest) × IsGiven l.given

abbrev pub decreases-loop-rest : goal.decreases-loop-rest
decreases-loop-rest l = length (behind l.rest)
