use Rattle.std.proofs.Common.{take}
use Rattle.doc_chars.specs.Reference.{BeginsReference}
use Rattle.doc_chars.specs.References.{StandsForText}
use Rattle.xq_lex.proofs.string.reference_at.Given as goal

abbrev pub invariant-loop-i : goal.invariant-loop-i
invariant-loop-i l = BeginsReference (take l.i l.text) × StandsForText l.reference (take l.i l.text)
