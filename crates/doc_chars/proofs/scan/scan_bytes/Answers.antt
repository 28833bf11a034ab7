use Rattle.std.proofs.Common.{rules}
use Rattle.std.specs.Str.{IsValidUpTo, IsErrorLen}
use Rattle.doc_chars.proofs.Fronts.{scanned_whole, scanned_other, scanned_bad, scanned_cut}
use Rattle.doc_chars.proofs.scan.scan_bytes.Goals as goal

pub returns-in-None : goal.returns-in-None
returns-in-None c = scanned_whole c.args.bytes.now c.in-Ok.text.now (search rules) (search rules)

pub returns-in-Some-first_other : goal.returns-in-Some-first_other
returns-in-Some-first_other c =
    scanned_other c.args.bytes.now c.from_utf8_unchecked-text.result.now c.valid_up_to-valid.result c.in-Some-first_other.at (search rules) c.in-Some-first_other.ensures

pub returns-then-is_some : goal.returns-then-is_some
returns-then-is_some c =
    let valid : IsValidUpTo c.args.bytes.now c.valid_up_to-valid.result = search rules in
    scanned_bad c.args.bytes.now c.from_utf8_unchecked-text.result.now c.valid_up_to-valid.result c.error_len.result (search rules) (search rules) valid (search rules) (search rules)

pub returns-else-is_some : goal.returns-else-is_some
returns-else-is_some c =
    let valid : IsValidUpTo c.args.bytes.now c.valid_up_to-valid.result = search rules in
    let len : IsErrorLen c.args.bytes.now c.valid_up_to-valid.result c.error_len.result = search rules in
    scanned_cut c.args.bytes.now c.from_utf8_unchecked-text.result.now c.valid_up_to-valid.result c.error_len.result (search rules) (search rules) valid len (search rules) (search rules)
