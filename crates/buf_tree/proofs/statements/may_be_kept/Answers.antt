use Rattle.std.proofs.Common.{sym, ◌∙◌}
use Rattle.std.proofs.lemmas.Bool.{false≢true}
use Rattle.buf_tree.proofs.statements.may_be_kept.Goals as goal

pub returns-then-is_alone : goal.returns-then-is_alone
returns-then-is_alone g c d i e = ((λ f. absurd (false≢true f)), (λ r. absurd (false≢true (sym r.0 ∙ (sym c.is_alone.ensures ∙ c.if-is_alone.true)))))

pub returns : goal.returns
returns g c d i e =
    let w = c.has_other_base.ensures d i e in (
      (λ f. let r = w.0 f in (sym c.is_alone.ensures ∙ c.if-is_alone.false, r.0, r.1)),
      (λ r. w.1 (r.1, r.2)),
    )
