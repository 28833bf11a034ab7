use Rattle.std.proofs.Common.{take}
use Rattle.matcher.specs.Signs.{SignAt}
use Rattle.matcher.proofs.signs.is_signed.Given as goal

abbrev pub invariant-loop-sign : goal.invariant-loop-sign
invariant-loop-sign l = SignAt (take l.sign-index l.signs) l.role l.level → ⊥
