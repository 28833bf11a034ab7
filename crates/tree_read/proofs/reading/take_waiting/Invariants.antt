use Rattle.std.proofs.Common.{length}
use Rattle.doc_reader.specs.Standing.{waiting}
use Rattle.tree_read.proofs.Documents.{HasTaken}
use Rattle.tree_read.proofs.reading.take_waiting.Given as goal

abbrev pub invariant-tokens : goal.invariant-tokens
invariant-tokens l = HasTaken l.initial.reader l.reader l.initial.tree l.tree

abbrev pub decreases-tokens : goal.decreases-tokens
decreases-tokens l = length (waiting l.reader)
