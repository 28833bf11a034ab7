use Rattle.std.proofs.Common.{◌≡◌, drop, true}
use Rattle.std.specs.List.{list_all}
use Rattle.gcx_model.specs.Values.{digits_from, is_digit_byte}
use Rattle.xq_lex.proofs.number.digits_value.Given as goal

abbrev pub invariant-loop-digit : goal.invariant-loop-digit
invariant-loop-digit l = (digits_from l.number (drop l.digit-index l.digits) ≡ digits_from 0 l.digits)
    × (list_all is_digit_byte (drop l.digit-index l.digits) ≡ true)
