use Rattle.std.proofs.Common.{rules}
use Rattle.xq_lex.proofs.ReadingLaws.{plain_part, reference_part, no_part_reference}
use Rattle.xq_lex.proofs.string.part_at.Goals as goal

pub returns-in_err-part : goal.returns-in_err-part
returns-in_err-part c =
    rw c.from_residual-in_err-part.ensures
    (no_part_reference c.args.quote c.in_ok-first.first.now c.args.text.now c.in_ok-first.rest.now c.in_ok-first.ensures.cases.0 (search rules) (search rules) c.in_err-part.ensures)

pub returns-in_ok-part : goal.returns-in_ok-part
returns-in_ok-part c =
    reference_part c.args.quote c.in_ok-first.first.now c.in_ok-part.part.value c.in_ok-part.part.count c.args.text.now c.in_ok-first.rest.now c.in_ok-first.ensures.cases.0 (search rules) c.in_ok-part.ensures

pub returns-then-is_xml_char : goal.returns-then-is_xml_char
returns-then-is_xml_char c =
    plain_part c.args.quote c.in_ok-first.first.now c.args.text.now c.in_ok-first.rest.now c.in_ok-first.ensures.cases.0 (search rules) (search rules) (search rules)
