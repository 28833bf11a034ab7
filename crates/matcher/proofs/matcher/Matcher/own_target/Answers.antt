use Rattle.std.proofs.Common.{◌≡◌, ◌-◌, ℕ, List, [], length, sym, ◌∙◌, ap, subst, arith}
use Rattle.path_states.specs.Lists.{Gains, Holds}
use Rattle.matcher.specs.Ahead.{OwnTarget}
use Rattle.matcher.specs.Frames.{HitAt}
use Rattle.matcher.specs.View.{MatcherView, frames_of, matcher_view}
use Rattle.path_states.proofs.Gaining.{gains_as, holds_from, holds_none}
use Rattle.matcher.proofs.Framing.{frames_length}
use Rattle.matcher.proofs.matcher.Matcher.own_target.Goals as goal

pub returns-then-self-gt0 : goal.returns-then-self-gt0
returns-then-self-gt0 c = holds_none c.new-levels.result.items (OwnTarget c.args.self.now c.args.end) c.new-levels.ensures.items
    (λ l t. let i = ap (λ (m : MatcherView). m.idle) c.self.view_is in let e = t.here in let g = c.if-self-gt0.true in omega arith)

pub returns : goal.returns
returns c =
    let v = c.self.inside.states in
    let marks = c.self.inside.frames in
    let here = c.saturating_sub-here.result in
    let seen = matcher_view v marks c.self.inside.idle c.self.inside.text c.self.inside.signs.items in
    let count : length (frames_of v marks) ≡ length marks = (let g = c.self.invariant.0 in frames_length v.states marks (omega arith)) in
    let last : here ≡ length (frames_of v marks) - 1 = omega (arith, c.saturating_sub-here.ensures, c.len.ensures, count) in
    let none : c.self.inside.idle ≡ 0 = (let g = c.if-self-gt0.false in omega arith) in
    subst (λ (m : MatcherView). Holds c.put_level.new.found.items (OwnTarget m c.args.end)) c.self.view_is
    (holds_from c.put_level.new.found.items (OwnTarget seen c.args.end)
    (gains_as [] c.put_level.new.found.items (HitAt (frames_of v marks) c.args.end here) (OwnTarget seen c.args.end)
    (λ l q. record { here = none; at = sym last ∙ q.0; hit = q.1 })
    (λ l t. (last ∙ t.at, t.hit))
    (subst (λ (z : List ℕ). Gains z c.put_level.new.found.items (HitAt (frames_of v marks) c.args.end here)) c.new-levels.ensures.items c.in_ok-put_level.ensures)))
