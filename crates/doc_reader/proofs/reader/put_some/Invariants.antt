use Rattle.std.proofs.Common.{◌≡◌, ◌++◌, map, take}
use Rattle.doc_tokens.specs.Given.{given_token}
use Rattle.doc_tokens.specs.Parts.{lent_token}
use Rattle.doc_reader.proofs.reader.put_some.Given as goal

abbrev pub invariant-loop-token : goal.invariant-loop-token
invariant-loop-token l = l.waits.items ≡ l.initial.waits.items ++ map given_token (map (lent_token l.bytes) (take l.token-index l.lent))
