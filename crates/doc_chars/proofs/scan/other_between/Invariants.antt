use Rattle.doc_chars.specs.Blocks.{HasNoOther}
use Rattle.doc_chars.proofs.scan.other_between.Given as goal

abbrev pub invariant-loop-at : goal.invariant-loop-at
invariant-loop-at l = HasNoOther l.from l.at l.bytes
