use Rattle.std.proofs.Common.{ℕ, get_or, inl, inr, subst}
use Rattle.matcher.specs.Signs.{SignAt}
use Rattle.path_states.proofs.Gaining.{in_get, in_more}
use Rattle.matcher.proofs.signs.are_signed.Goals as goal

pub returns-then-not-is_signed-clause-no : goal.returns-then-not-is_signed-clause-no
returns-then-not-is_signed-clause-no c = λ h k. c.is_signed.ensures.no c.if-not-is_signed.true (k (get_or c.args.levels.now c.loop-level.level-index 0) (in_get c.args.levels.now c.loop-level.level-index 0 c.loop-level-test.true))

pub loop-level-preserved : goal.loop-level-preserved
loop-level-preserved c = λ k j. elim (in_more c.args.levels.now c.loop-level.level-index 0 k c.loop-level-test.true j) [
  | inl m ↦ c.loop-level.invariant k m
  | inr e ↦ subst (λ (z : ℕ). SignAt c.args.signs.now c.args.role z) e (c.is_signed.ensures.yes c.if-not-is_signed.false)
]
