use Rattle.std.proofs.Common.{◌∙◌, refl, sym}
use Rattle.std.proofs.lemmas.Bool.{true≢false}
use Rattle.engine.proofs.any_part.AnyPart.new.Goals as goal

pub returns-then-tracing-clause-traced : goal.returns-then-tracing-clause-traced
returns-then-tracing-clause-traced g c = λ wanted. c.in_ok-told.ensures.traced refl

pub returns-then-tracing-clause-silent : goal.returns-then-tracing-clause-silent
returns-then-tracing-clause-silent g c = λ unwanted. absurd (true≢false (sym c.if-tracing.true ∙ unwanted))

pub returns-then-tracing-clause-plan : goal.returns-then-tracing-clause-plan
returns-then-tracing-clause-plan g c = (c.in_ok-told.ensures.made.plan_is, c.in_ok-told.ensures.made.tracing_is ∙ sym c.if-tracing.true)

pub returns-clause-traced : goal.returns-clause-traced
returns-clause-traced g c = λ wanted. absurd (true≢false (sym wanted ∙ c.if-tracing.false))

pub returns-clause-silent : goal.returns-clause-silent
returns-clause-silent g c = λ unwanted. c.in_ok-silent.ensures.silent refl

pub returns-clause-plan : goal.returns-clause-plan
returns-clause-plan g c = (c.in_ok-silent.ensures.made.plan_is, c.in_ok-silent.ensures.made.tracing_is ∙ sym c.if-tracing.false)
