use Rattle.std.proofs.Common.{◌≡◌, [], map, sym, ◌∙◌, ap, subst, Some}
use Rattle.gcx_base.specs.declared.ids.Role.{Role}
use Rattle.path_states.specs.Lists.{Climbs}
use Rattle.matcher.specs.View.{MatcherView, innermost_frame}
use Rattle.path_states.proofs.Looking.{none_of}
use Rattle.matcher.proofs.Calling.{inside_whole}
use Rattle.matcher.proofs.matcher.Matcher.given_inside.Goals as goal

pub returns-then-is_empty : goal.returns-then-is_empty
returns-then-is_empty c = λ frame at climbs.
    let none : c.here.result.now.whole ≡ [] = sym c.whole-roles.ensures ∙ none_of c.whole-roles.result.now (sym c.is_empty.ensures ∙ c.if-is_empty.true) in
    let same = inside_whole c.self.inside.states c.self.inside.frames c.self.invariant c.here.result.now c.here.ensures.is frame (subst (λ (m : MatcherView). innermost_frame m.frames ≡ Some frame) (sym c.self.view_is) at) in
    ap (map (λ (r : Role). r.0)) c.new.ensures ∙ sym (same ∙ none)

pub returns : goal.returns
returns c = λ frame at climbs.
    let same = inside_whole c.self.inside.states c.self.inside.frames c.self.invariant c.here.result.now c.here.ensures.is frame (subst (λ (m : MatcherView). innermost_frame m.frames ≡ Some frame) (sym c.self.view_is) at) in
    let roles : c.whole-roles.result.now ≡ frame.whole = c.whole-roles.ensures ∙ sym same in
    c.in_ok-given.ensures (subst Climbs (sym roles) climbs) ∙ roles
