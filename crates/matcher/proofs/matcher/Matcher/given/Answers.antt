use Rattle.std.proofs.Common.{◌≡◌, ◌<◌, sym, ◌∙◌, ap, subst, arith}
use Rattle.path_states.specs.Lists.{Climbs}
use Rattle.matcher.specs.Calls.{GivesHere}
use Rattle.matcher.specs.Stacks.{found_in}
use Rattle.matcher.specs.View.{MatcherView, matcher_view}
use Rattle.matcher.proofs.Framing.{frame_last}
use Rattle.matcher.proofs.HereGiven.{here_both, here_inside}
use Rattle.matcher.proofs.matcher.Matcher.given.Goals as goal

pub returns-then-self-gt0 : goal.returns-then-self-gt0
returns-then-self-gt0 c =
    here_inside c.args.self.now (subst (λ (m : MatcherView). 0 < m.idle) c.self.view_is (let g = c.if-self-gt0.true in omega arith)) c.in_ok-inside.inside c.in_ok-inside.ensures

pub returns : goal.returns
returns c =
    let seen = matcher_view c.self.inside.states c.self.inside.frames c.self.inside.idle c.self.inside.text c.self.inside.signs.items in
    let f = frame_last c.self.inside.states c.self.inside.frames c.self.invariant c.here.result.now c.here.ensures.is in
    let none : c.self.inside.idle ≡ 0 = (let g = c.if-self-gt0.false in omega arith) in
    subst (λ (m : MatcherView). GivesHere m c.in_ok-given.given) c.self.view_is
    (here_both seen c.here.result.now f.0 f.2 c.here.ensures.made none c.given.result.now c.given.ensures c.found_here.result.now (c.found_here.ensures ∙ ap found_in f.1) c.in_ok-given.given
    (c.in_ok-given.ensures (subst Climbs (sym c.given.ensures) c.here.ensures.made.rising)))
