use Rattle.std.proofs.Common.{take}
use Rattle.xq_values.proofs.Wholes.{Front}
use Rattle.xq_values.proofs.number.whole_number.Given as goal

abbrev pub invariant-loop-digit : goal.invariant-loop-digit
invariant-loop-digit l = Front (take l.digit-index l.text) l.number
