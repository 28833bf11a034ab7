use Rattle.std.proofs.Common.{◌∙◌, ap, arith}
use Rattle.doc_reader.specs.Standing.{ReaderView, lent_next}
use Rattle.doc_reader.proofs.Behind.{behind_keeps, lent_many}
use Rattle.document_tests.proofs.documents.lent.take_some.Goals as goal

pub put_first-put-requires-clause-parts : goal.put_first-put-requires-clause-parts
put_first-put-requires-clause-parts c = c.lent.ensures.parts

pub take_lent-requires : goal.take_lent-requires
take_lent-requires c =
    let many = lent_many (lent_next c.args.reader.now) c.lent.result.0.now c.lent.result.1.now c.lent.ensures in
    omega arith

pub returns : goal.returns
returns c = ap (λ (h : ReaderView). h.finished) c.take_lent.ensures.takes ∙ (behind_keeps c.args.reader.now _).finished
