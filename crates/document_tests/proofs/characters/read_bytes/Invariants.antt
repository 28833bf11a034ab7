use Rattle.std.proofs.Common.{◌≤◌}
use Rattle.document_tests.proofs.characters.read_bytes.Given as goal

abbrev pub invariant-loop-byte : goal.invariant-loop-byte
invariant-loop-byte l = l.chars.seen ≤ l.byte-index
