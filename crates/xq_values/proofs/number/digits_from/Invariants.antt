use Rattle.std.proofs.Common.{◌≡◌, drop, true}
use Rattle.std.specs.List.{list_all}
use Rattle.gcx_model.specs.Values.{digits_from, is_digit_byte}
use Rattle.xq_values.proofs.number.digits_from.Given as goal

abbrev pub invariant-loop-digit : goal.invariant-loop-digit
invariant-loop-digit l = (digits_from l.number (drop l.digit-index l.digits) ≡ digits_from l.start l.digits)
    × (list_all is_digit_byte (drop l.digit-index l.digits) ≡ true)
