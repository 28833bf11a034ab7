use Rattle.std.proofs.Common.{sym}
use Rattle.xq_lex.proofs.NumberLaws.{fraction_read}
use Rattle.xq_lex.proofs.number.split_fraction.Goals as goal

pub returns-else-is_empty-clause-rest : goal.returns-else-is_empty-clause-rest
returns-else-is_empty-clause-rest c =
    fraction_read c.args.text.now c.in-Some.behind.now c.split_digits.result.0.now c.split_digits.result.1.now c.in-Some.first.now c.in-Some.ensures.cases.0 c.if-first-eq46.true
    c.split_digits.ensures.digits c.split_digits.ensures.rest (sym c.if-is_empty.ensures)
