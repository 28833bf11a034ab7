use Rattle.std.proofs.Common.{arith}
use Rattle.doc_reader.specs.Standing.{lent_next}
use Rattle.doc_reader.proofs.Behind.{lent_many}
use Rattle.document_tests.proofs.documents.lent.take_end.Goals as goal

pub take_lent-requires : goal.take_lent-requires
take_lent-requires c =
    let many = lent_many (lent_next c.args.reader.now) c.lent.result.0.now c.lent.result.1.now c.lent.ensures in
    omega arith
