use Rattle.std.proofs.Common.{length}
use Rattle.doc_reader.specs.Standing.{waiting}
use Rattle.tree_read.proofs.Keeping.{HasKept}
use Rattle.tree_read.proofs.tokens.keep_waiting.Given as goal

abbrev pub invariant-tokens : goal.invariant-tokens
invariant-tokens l = HasKept l.initial.reader l.reader l.initial.tokens.items l.tokens.items

abbrev pub decreases-tokens : goal.decreases-tokens
decreases-tokens l = length (waiting l.reader)
