use Rattle.std.proofs.Common.{◌≡◌, take}
use Rattle.std.specs.List.{list_all}
use Rattle.doc_chars.specs.Blocks.{is_plain_byte}
use Rattle.doc_chars.proofs.scan.are_plain.Given as goal

abbrev pub invariant-loop-b : goal.invariant-loop-b
invariant-loop-b l = l.all ≡ list_all is_plain_byte (take l.b-index l.bytes)
