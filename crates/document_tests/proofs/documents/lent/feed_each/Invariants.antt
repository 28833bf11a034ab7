use Rattle.doc_reader.specs.Standing.{IsOpen}
use Rattle.document_tests.proofs.documents.lent.feed_each.Given as goal

abbrev pub invariant-loop-piece : goal.invariant-loop-piece
invariant-loop-piece l = IsOpen l.reader
