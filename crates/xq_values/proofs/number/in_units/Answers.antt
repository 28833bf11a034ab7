use Rattle.std.proofs.Common.{◌≡◌, ◌-◌, ◌*◌, ◌^◌, ◌++◌, length, sym, ap, ◌∙◌}
use Rattle.gcx_model.specs.Values.{digits_from}
use Rattle.xq_values.proofs.Digits.{digits_from-append, whole_big, both_big, match_of_iff}
use Rattle.xq_values.proofs.number.in_units.Goals as goal

pub returns-in_err-digits_from : goal.returns-in_err-digits_from
returns-in_err-digits_from c =
    rw c.from_residual.ensures (whole_big (2 ^ 128) c.args.whole.now c.args.fraction.now (18 - length c.args.fraction.now) (c.in_err-digits_from.ensures))

pub returns-in_err-number : goal.returns-in_err-number
returns-in_err-number c =
    rw c.from_residual-in_err-number.ensures (both_big (2 ^ 128) c.args.whole.now c.args.fraction.now c.in_ok-digits_from.field-0 (18 - length c.args.fraction.now) (c.in_ok-digits_from.ensures) (c.in_err-number.ensures))

pub returns : goal.returns
returns c =
    let number : c.in_ok-number.number ≡ digits_from 0 (c.args.whole.now ++ c.args.fraction.now) =
    c.in_ok-number.ensures ∙ ap (λ n. digits_from n c.args.fraction.now) (c.in_ok-digits_from.ensures) ∙ sym (digits_from-append 0 c.args.whole.now c.args.fraction.now) in
    let size : c.in_ok-number.number * c.pow.result ≡ digits_from 0 (c.args.whole.now ++ c.args.fraction.now) * 10 ^ (18 - length c.args.fraction.now) =
    λ i. number i * c.pow.ensures i in
    match_of_iff (2 ^ 128) _ _ c.checked_mul.result size c.checked_mul.ensures
