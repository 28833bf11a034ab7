use Rattle.std.proofs.Common.{rules, arith}
use Rattle.doc_chars.proofs.Pieces.{joined_bytes}
use Rattle.doc_chars.proofs.cut.joined.Goals as goal

pub returns-clause-bytes : goal.returns-clause-bytes
returns-clause-bytes c =
    joined_bytes c.args.carried.now c.args.piece.now c.copy_from_slice.new.self c.copy_from_slice-2.new.self _ c.min-more.result _ (search rules) (search rules) (search rules) (omega arith)
