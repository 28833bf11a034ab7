use Rattle.std.proofs.Common.{◌≡◌, take}
use Rattle.std.specs.List.{list_all}
use Rattle.doc_write.specs.Plain.{is_plain}
use Rattle.doc_write.proofs.all_plain.Given as goal

abbrev pub invariant-loop-b : goal.invariant-loop-b
invariant-loop-b l = l.all ≡ list_all is_plain (take l.b-index l.bytes)
