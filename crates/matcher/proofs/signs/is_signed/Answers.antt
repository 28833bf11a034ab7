use Rattle.std.proofs.Common.{get_or, inl, inr, ap, ◌∙◌}
use Rattle.matcher.specs.declared.signs.Sign.{Sign}
use Rattle.path_states.proofs.Gaining.{in_get, in_more}
use Rattle.matcher.proofs.signs.is_signed.Goals as goal

abbrev none : Sign
none = record { role = 0; level = 0; steps = 0 }

pub returns-then-is_at-clause-yes : goal.returns-then-is_at-clause-yes
returns-then-is_at-clause-yes c = λ h.
    let q = c.is_at.ensures.yes c.if-is_at.true in
    record { sign = get_or c.args.signs.now c.loop-sign.sign-index none; member = in_get c.args.signs.now c.loop-sign.sign-index none c.loop-sign-test.true; of = q.0; at = q.1 }

pub loop-sign-preserved : goal.loop-sign-preserved
loop-sign-preserved c = λ s. elim (in_more c.args.signs.now c.loop-sign.sign-index none s.sign c.loop-sign-test.true s.member) [
  | inl j ↦ c.loop-sign.invariant (record { sign = s.sign; member = j; of = s.of; at = s.at })
  | inr e ↦ c.is_at.ensures.no c.if-is_at.false (ap (λ (z : Sign). z.role) e ∙ s.of) (ap (λ (z : Sign). z.level) e ∙ s.at)
]
