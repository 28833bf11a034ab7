use Rattle.std.proofs.Common.{sym, ◌∙◌, refl, inl}
use Rattle.buf_tree.proofs.OtherBases.{either_below}
use Rattle.buf_tree.proofs.sweep.has_other_base.Goals as goal

pub returns-then-has_base_above : goal.returns-then-has_base_above
returns-then-has_base_above g c d i e = (
  (λ _. (sym c.is_own.ensures ∙ c.if-is_own.false, inl ((c.has_base_above.ensures d i e).0 c.if-has_base_above.true))),
  (λ _. refl),
)

pub returns : goal.returns
returns g c d i e = either_below _ _ _ _ _ (sym c.is_own.ensures ∙ c.if-is_own.false) (c.has_base_above.ensures d i e) c.if-has_base_above.false (c.has_base_below.ensures d i e)
