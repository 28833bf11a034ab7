use Rattle.std.proofs.Common.{◌≡◌, List, sym, ◌∙◌, ap, subst, Some}
use Rattle.std.specs.Prelude.{option_map}
use Rattle.matcher.specs.Parts.{IsUnmatched, NodeMarks}
use Rattle.matcher.specs.declared.frames.Context.{Context}
use Rattle.matcher.proofs.Finding.{marks_some, marks_none}
use Rattle.matcher.proofs.found.is_unfound.Goals as goal

pub returns-in-Some-clause-yes : goal.returns-in-Some-clause-yes
returns-in-Some-clause-yes c = λ h.
    let q = marks_some c.args.frames.now c.args.level c.in-Some.contexts.now (sym c.contexts_at.ensures ∙ ap (option_map (λ x. x.now)) c.in-Some.is) in
    record { one = q.0; at = q.1; member = subst (λ (z : List Context). IsUnmatched z c.args.role) (sym q.2) (c.has_unmatched.ensures.yes h) }

pub returns-in-Some-clause-no : goal.returns-in-Some-clause-no
returns-in-Some-clause-no c = λ h k.
    let q = marks_some c.args.frames.now c.args.level c.in-Some.contexts.now (sym c.contexts_at.ensures ∙ ap (option_map (λ x. x.now)) c.in-Some.is) in
    let same : k.one ≡ q.0 = (let e : Some k.one ≡ Some q.0 = sym k.at ∙ q.1 in cc) in
    c.has_unmatched.ensures.no h (subst (λ (z : List Context). IsUnmatched z c.args.role) (ap (λ (z : NodeMarks). z.contexts) same ∙ q.2) k.member)

pub returns-in-None-clause-no : goal.returns-in-None-clause-no
returns-in-None-clause-no c = λ h k. marks_none c.args.frames.now c.args.level k.one (sym c.contexts_at.ensures ∙ ap (option_map (λ x. x.now)) c.in-None.is) k.at
