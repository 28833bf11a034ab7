use Rattle.std.proofs.Common.{◌≡◌, ◌<◌, length, map, sym, ◌∙◌, subst, arith}
use Rattle.gcx_base.specs.declared.ids.Role.{Role}
use Rattle.matcher.specs.Matcher.{MatcherAt}
use Rattle.matcher.specs.View.{MatcherView, matcher_view}
use Rattle.path_states.specs.Lists.{Climbs}
use Rattle.path_states.proofs.Looking.{some_at}
use Rattle.matcher.proofs.Beginning.{document_given}
use Rattle.matcher.proofs.Framing.{at_frame}
use Rattle.matcher.proofs.matcher.Matcher.document.Goals as goal

pub returns-in_ok-given-in-Some : goal.returns-in_ok-given-in-Some
returns-in_ok-given-in-Some c = λ past text s.
    let v = c.self.inside.states in
    let marks = c.self.inside.frames in
    let x = c.in-Some.state.now in
    let low : 0 < length marks = c.self.invariant.1 in
    let k = some_at marks 0 low in
    let made = c.in-Some.ensures.made in
    let given : map (λ (r : Role). r.0) c.in_ok-given-in-Some.given ≡ x.given = c.in_ok-given-in-Some.ensures (subst Climbs (sym c.given.ensures) made.rising) ∙ c.given.ensures in
    let seen = matcher_view v marks c.self.inside.idle c.self.inside.text c.self.inside.signs.items in
    document_given seen past text (subst (λ (m : MatcherView). MatcherAt m past text) (sym c.self.view_is) s) x k.0 (at_frame v.states marks 0 x k.0 (sym c.in-Some.ensures.is) k.1) made
    (map (λ (r : Role). r.0) c.in_ok-given-in-Some.given) given

pub returns-in-None : goal.returns-in-None
returns-in-None c = λ past text s.
    let v = c.self.inside.states in
    let low : 0 < length v.states = (let a = c.self.invariant.0 in let b = c.self.invariant.1 in omega arith) in
    let k = some_at v.states 0 low in
    let e = c.in-None.ensures.is ∙ k.1 in
    absurd (cc)
