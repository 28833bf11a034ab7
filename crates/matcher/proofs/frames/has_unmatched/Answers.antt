use Rattle.std.proofs.Common.{false, get_or, inl, inr, ap, ◌∙◌}
use Rattle.matcher.specs.declared.frames.Context.{Context}
use Rattle.path_states.proofs.Gaining.{in_get, in_more}
use Rattle.matcher.proofs.frames.has_unmatched.Goals as goal

abbrev none : Context
none = record { role = 0; unmatched = false }

pub returns-then-is_unmatched-clause-yes : goal.returns-then-is_unmatched-clause-yes
returns-then-is_unmatched-clause-yes c = λ h.
    let q = c.is_unmatched.ensures.yes c.if-is_unmatched.true in
    record { context = get_or c.args.contexts.now c.loop-context.context-index none; member = in_get c.args.contexts.now c.loop-context.context-index none c.loop-context-test.true; of = q.0; is = q.1 }

pub loop-context-preserved : goal.loop-context-preserved
loop-context-preserved c = λ s. elim (in_more c.args.contexts.now c.loop-context.context-index none s.context c.loop-context-test.true s.member) [
  | inl j ↦ c.loop-context.invariant (record { context = s.context; member = j; of = s.of; is = s.is })
  | inr e ↦ c.is_unmatched.ensures.no c.if-is_unmatched.false (ap (λ (z : Context). z.role) e ∙ s.of) (ap (λ (z : Context). z.unmatched) e ∙ s.is)
]
