use Rattle.std.proofs.Common.{rules, ◌≤◌, ◌^◌, [], ◌∷◌, get_or}
use Rattle.gcx_model.specs.Values.{digits_from}
use Rattle.xq_values.proofs.Digits.{next_big}
use Rattle.xq_values.proofs.number.digits_from.Goals as goal

pub returns-in_err-number : goal.returns-in_err-number
returns-in_err-number c =
    let big : 2 ^ 128 ≤ digits_from c.loop-digit.number (get_or c.args.digits.now c.loop-digit.digit-index 0 ∷ []) = search rules in
    rw c.from_residual.ensures (next_big (2 ^ 128) c.loop-digit.number c.loop-digit.digit-index c.args.digits.now _ (search rules) c.loop-digit.invariant.0 big)
