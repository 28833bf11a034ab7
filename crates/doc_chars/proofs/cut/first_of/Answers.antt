use Rattle.std.proofs.Common.{rules, take, subst}
use Rattle.doc_chars.specs.Scan.{BeginsWith}
use Rattle.doc_chars.proofs.Pieces.{begins_whole}
use Rattle.doc_chars.proofs.cut.first_of.Goals as goal

pub returns : goal.returns
returns c =
    let bytes : BeginsWith c.first_char.result (take c.joined-count.result.1 c.joined-count.result.0) = search rules in
    begins_whole c.first_char.result _ (subst (BeginsWith c.first_char.result) c.joined-count.ensures.bytes bytes)
