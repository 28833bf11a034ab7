use Rattle.std.proofs.Common.{arith, sym, ◌∙◌, ap, refl}
use Rattle.std.specs.FinSet.{contains}
use Rattle.std.proofs.lemmas.Bool.{false≢true}
use Rattle.buf_tree.specs.Row.{Row}
use Rattle.buf_tree.proofs.Seeking.{cell_row}
use Rattle.buf_tree.proofs.OtherBases.{has_paid}
use Rattle.buf_tree.proofs.sweep.withdraw.Goals as goal
use Rattle.buf_tree.proofs.sweep.withdraw.Goals.{else-others-via-then-others+else-is_kept, else-others-via-else-others}

pub returns-then-not-has-clause-taken : goal.returns-then-not-has-clause-taken
returns-then-not-has-clause-taken g c T n d tree u i e = (
  (λ z. absurd (omega arith)),
  (λ h. absurd (false≢true (sym (sym c.has.ensures ∙ c.if-not-has.true) ∙ sym (ap (λ (x : Row). contains x.roles c.args.off.now.role.0) (cell_row _ c.requires.shape d i _ e _ c.payload.ensures)) ∙ h.0))),
)

pub untake-requires : goal.untake-requires
untake-requires g c = has_paid _ _ _ c.requires.there c.payload.ensures (sym c.has.ensures ∙ c.if-not-has.false)

pub returns-clause-taken : goal.returns-clause-taken
returns-clause-taken g c T n d tree u i e = (
  (λ _. (
    ap (λ (x : Row). contains x.roles c.args.off.now.role.0) (cell_row _ c.requires.shape d i _ e _ c.payload.ensures) ∙ sym c.has.ensures ∙ c.if-not-has.false,
    (λ o k. elim c.else-others.branch [
      | else-others-via-then-others+else-is_kept w ↦ false≢true (sym w.if-is_kept.false ∙ (w.is_kept.ensures.kept T n tree u).1 k)
      | else-others-via-else-others w ↦ false≢true (sym w.if-others.false ∙ o)
    ]),
  )),
  (λ _. refl),
)
