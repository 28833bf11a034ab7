use Rattle.std.proofs.Common.{length, arith}
use Rattle.doc_reader.proofs.Owning.{part_at}
use Rattle.document_tests.proofs.documents.lent.put_first.Goals as goal

pub owned-requires : goal.owned-requires
owned-requires c = part_at (length c.args.bytes.now) c.args.bytes.now c.args.tokens.now c.loop-i.i _ c.requires.parts (omega arith)
