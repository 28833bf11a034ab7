use Rattle.std.proofs.Common.{ℕ, take}
use Rattle.gcx_model.specs.Members.{In}
use Rattle.matcher.specs.Signs.{SignAt}
use Rattle.matcher.proofs.signs.are_signed.Given as goal

abbrev pub invariant-loop-level : goal.invariant-loop-level
invariant-loop-level l = (k : ℕ) → In k (take l.level-index l.levels) → SignAt l.signs l.role k
