use Rattle.std.proofs.Common.{arith, ◌≡◌, ◌*◌, ◌-◌, ◌^◌, length}
use Rattle.gcx_model.specs.Values.{digits_from}
use Rattle.xq_lex.proofs.DigitLaws.{few_below, few_digits}
use Rattle.xq_lex.proofs.number.fraction_units.Goals as goal

pub overflow_mul-result : goal.overflow_mul-result
overflow_mul-result c =
    let same : c.in-Some.number * c.pow.result ≡ digits_from 0 c.args.digits.now * 10 ^ (18 - length c.args.digits.now) =
    λ i. c.in-Some.ensures i * c.pow.ensures i in
    omega (arith, same, few_below c.args.digits.now c.requires.digits c.requires.few)

pub unreachable-requires : goal.unreachable-requires
unreachable-requires c = omega (arith, few_digits c.args.digits.now c.requires.digits c.requires.few, c.in-None.ensures)
