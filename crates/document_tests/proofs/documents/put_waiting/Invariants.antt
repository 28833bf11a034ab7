use Rattle.std.proofs.Common.{◌≡◌, length}
use Rattle.doc_reader.specs.Standing.{waiting}
use Rattle.document_tests.proofs.documents.put_waiting.Given as goal

abbrev pub invariant-loop-token : goal.invariant-loop-token
invariant-loop-token l = l.reader.finished ≡ l.fn.reader.finished

abbrev pub decreases-loop-token : goal.decreases-loop-token
decreases-loop-token l = length (waiting l.reader)
