use Rattle.std.proofs.Common.{refl, sym, eqb-true, length}
use Rattle.std.proofs.Math.Facts.{to_z-of_z}
use Rattle.xq_lex.proofs.LexemeLaws.{number_is, number_is_wide, number_is_not, reads_of}
use Rattle.xq_lex.proofs.lexeme.number_at.Goals as goal

pub returns-then-is_empty-clause-err : goal.returns-then-is_empty-clause-err
returns-then-is_empty-clause-err c =
    (refl, number_is_not c.args.minus c.args.text.now c.split_digits.result.0.now c.requires.unsigned c.requires.kind c.split_digits.ensures.digits (eqb-true (length c.split_digits.result.0.now) 0 (sym c.if-is_empty.ensures)))

pub returns-in-Some-clause-ok : goal.returns-in-Some-clause-ok
returns-in-Some-clause-ok c =
    let reads = reads_of c.args.text.now c.split_digits.result.0.now c.split_digits.result.1.now c.split_fraction.result.0.now c.split_fraction.result.1.now c.split_digits.ensures.digits c.split_digits.ensures.rest (sym c.if-is_empty.ensures) c.split_fraction.ensures.fraction c.split_fraction.ensures.rest in
    rw (c.number_kind.ensures, to_z-of_z c.in-Some.ensures.fits, c.signed_len.ensures)
    (number_is c.args.minus c.args.text.now c.split_digits.result.0.now c.split_digits.result.1.now c.split_fraction.result.0.now c.split_fraction.result.1.now c.in-Some.units reads c.in-Some.ensures.value.0 c.in-Some.ensures.value.1)

pub returns-in-None-clause-err : goal.returns-in-None-clause-err
returns-in-None-clause-err c =
    let reads = reads_of c.args.text.now c.split_digits.result.0.now c.split_digits.result.1.now c.split_fraction.result.0.now c.split_fraction.result.1.now c.split_digits.ensures.digits c.split_digits.ensures.rest (sym c.if-is_empty.ensures) c.split_fraction.ensures.fraction c.split_fraction.ensures.rest in
    (refl, number_is_wide c.args.minus c.args.text.now c.split_digits.result.0.now c.split_digits.result.1.now c.split_fraction.result.0.now c.split_fraction.result.1.now reads c.in-None.ensures.value)
