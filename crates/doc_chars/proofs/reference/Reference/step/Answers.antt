use Rattle.std.proofs.Common.{◌∷◌, [], ◌++◌, subst, sym}
use Rattle.doc_chars.specs.declared.reference.State.{State}
use Rattle.doc_chars.specs.References.{StandsForText}
use Rattle.doc_chars.proofs.Completions.{goes_on}
use Rattle.doc_chars.proofs.reference.Reference.step.Goals as goal

pub returns-in-More-clause-answer : goal.returns-in-More-clause-answer
returns-in-More-clause-answer c text h =
    let stands = c.in-More.ensures.leads text (subst (λ (s : State). StandsForText s text) (sym c.self.view_is) h) in
    (goes_on c.in-More.state (text ++ c.args.c ∷ []) stands, stands)

pub returns-in-Done-clause-answer : goal.returns-in-Done-clause-answer
returns-in-Done-clause-answer c text h = c.in-Done.ensures.leads text (subst (λ (s : State). StandsForText s text) (sym c.self.view_is) h)

pub returns-in-Bad-clause-answer : goal.returns-in-Bad-clause-answer
returns-in-Bad-clause-answer c text h = c.in-Bad.ensures.leads text (subst (λ (s : State). StandsForText s text) (sym c.self.view_is) h)
