use Rattle.std.proofs.Common.{length}
use Rattle.doc_reader.specs.Standing.{waiting}
use Rattle.query_tests.proofs.answers.grown.Given as goal

abbrev pub decreases-loop-token : goal.decreases-loop-token
decreases-loop-token l = length (waiting l.reader)
