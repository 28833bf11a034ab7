use Rattle.std.proofs.Common.{◌≡◌, ◌<◌, ◌+◌, ◌-◌, ◌*◌, ◌^◌, sym, subst, ◌∙◌, arith, take, get_or, true}
use Rattle.gcx_model.specs.Values.{is_digit_byte}
use Rattle.xq_values.proofs.Wholes.{Front, front_more, front_below}
use Rattle.xq_values.proofs.number.whole_number.Goals as goal

next : (c : goal.After-from) → Front (take (c.loop-digit.digit-index + 1) c.args.text.now) (c.loop-digit.number * 10 + c.from.result)
next c =
    let digit : is_digit_byte (get_or c.args.text.now c.loop-digit.digit-index 0) ≡ true = sym c.is_digit.ensures ∙ c.if-not-is_digit.false in
    subst (λ d. Front (take (c.loop-digit.digit-index + 1) c.args.text.now) (c.loop-digit.number * 10 + d)) (sym c.from.ensures)
    (front_more c.args.text.now c.loop-digit.digit-index c.loop-digit.number c.loop-digit-test.true c.loop-digit.invariant digit)

pub overflow_mul-number : goal.overflow_mul-number
overflow_mul-number c =
    let digit : is_digit_byte (get_or c.args.text.now c.loop-digit.digit-index 0) ≡ true = sym c.is_digit.ensures ∙ c.if-not-is_digit.false in
    let more = front_more c.args.text.now c.loop-digit.digit-index c.loop-digit.number c.loop-digit-test.true c.loop-digit.invariant digit in
    let below : c.loop-digit.number * 10 + (get_or c.args.text.now c.loop-digit.digit-index 0 - 48) < 10 ^ 18 = front_below c.args.text.now (c.loop-digit.digit-index + 1) _ (omega arith) (omega arith) more in
    omega (arith, below)

pub overflow_add-number : goal.overflow_add-number
overflow_add-number c =
    let below : c.loop-digit.number * 10 + c.from.result < 10 ^ 18 = front_below c.args.text.now (c.loop-digit.digit-index + 1) _ (omega arith) (omega arith) (next c) in
    omega (arith, below)

pub loop-digit-preserved : goal.loop-digit-preserved
loop-digit-preserved c = next c
