use Rattle.std.proofs.Common.{rules, ◌≤◌, ◌^◌, [], ◌∷◌}
use Rattle.gcx_model.specs.Values.{digits_from}
use Rattle.xq_lex.proofs.DigitLaws.{next_big}
use Rattle.xq_lex.proofs.number.digits_value.Goals as goal

pub returns-in_err-number : goal.returns-in_err-number
returns-in_err-number c =
    let big : 2 ^ 64 ≤ digits_from c.loop-digit.number (c.digit-item.result ∷ []) = search rules in
    rw c.from_residual.ensures (next_big (2 ^ 64) c.loop-digit.number c.loop-digit.digit-index c.digit-item.result c.args.digits.now _ (search rules) c.digit-item.is c.loop-digit.invariant.0 big)
