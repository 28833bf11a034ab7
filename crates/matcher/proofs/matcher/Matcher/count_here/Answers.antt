use Rattle.std.proofs.Common.{◌≡◌, ◌<◌, length, sym, ◌∙◌, ap, subst, arith}
use Rattle.matcher.specs.Calls.{GivesCount}
use Rattle.matcher.specs.Stacks.{found_in}
use Rattle.matcher.specs.View.{MatcherView, matcher_view}
use Rattle.matcher.proofs.Framing.{frame_last}
use Rattle.matcher.proofs.HereGiven.{count_framed, count_idle}
use Rattle.matcher.proofs.matcher.Matcher.count_here.Goals as goal

pub returns-then-self-gt0 : goal.returns-then-self-gt0
returns-then-self-gt0 c = λ unsigned.
    let seen = matcher_view c.self.inside.states c.self.inside.frames c.self.inside.idle c.self.inside.text c.self.inside.signs.items in
    let f = frame_last c.self.inside.states c.self.inside.frames c.self.invariant c.here-state.result.now c.here-state.ensures.is in
    let some : 0 < c.self.inside.idle = (let g = c.if-self-gt0.true in omega arith) in
    subst (λ (m : MatcherView). GivesCount m (length c.whole.result.now)) c.self.view_is
    (count_idle seen c.here-state.result.now f.0 f.2 some (ap (λ (m : MatcherView). m.signs) c.self.view_is ∙ unsigned) c.whole.result.now c.whole.ensures)

pub returns : goal.returns
returns c = λ unsigned.
    let seen = matcher_view c.self.inside.states c.self.inside.frames c.self.inside.idle c.self.inside.text c.self.inside.signs.items in
    let f = frame_last c.self.inside.states c.self.inside.frames c.self.invariant c.here-state.result.now c.here-state.ensures.is in
    let none : c.self.inside.idle ≡ 0 = (let g = c.if-self-gt0.false in omega arith) in
    let found = sym (ap found_in f.1) ∙ c.is_first.ensures c.if-is_first.false in
    subst (λ (m : MatcherView). GivesCount m (length c.given.result.now)) c.self.view_is
    (count_framed seen c.here-state.result.now f.0 f.2 c.here-state.ensures.made none found (ap (λ (m : MatcherView). m.signs) c.self.view_is ∙ unsigned) c.given.result.now c.given.ensures)
