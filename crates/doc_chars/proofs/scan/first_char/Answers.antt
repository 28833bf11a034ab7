use Rattle.std.proofs.Common.{rules}
use Rattle.std.specs.Str.{IsValidUpTo, IsErrorLen}
use Rattle.doc_chars.proofs.Fronts.{begins_bad, begins_cut}
use Rattle.doc_chars.proofs.scan.first_char.Goals as goal

pub returns-then-is_some : goal.returns-then-is_some
returns-then-is_some c =
    let valid : IsValidUpTo c.args.bytes.now c.valid_up_to-valid.result = search rules in
    begins_bad c.args.bytes.now c.valid_up_to-valid.result c.error_len.result (search rules) valid (search rules) (search rules)

pub returns-else-is_some : goal.returns-else-is_some
returns-else-is_some c =
    let valid : IsValidUpTo c.args.bytes.now c.valid_up_to-valid.result = search rules in
    let len : IsErrorLen c.args.bytes.now c.valid_up_to-valid.result c.error_len.result = search rules in
    begins_cut c.args.bytes.now c.valid_up_to-valid.result c.error_len.result (search rules) valid len (search rules) (search rules)
