use Rattle.std.proofs.Common.{◌≡◌, ◌-◌, ◌<◌, List, length, sym, ◌∙◌, ap, subst, arith}
use Rattle.path_states.specs.Lists.{From, Holds}
use Rattle.matcher.specs.Ahead.{FirstTarget}
use Rattle.matcher.specs.Frames.{IsLevelOf}
use Rattle.matcher.specs.Stacks.{found_in}
use Rattle.matcher.specs.View.{FrameView, MatcherView, frame_of, frames_of, matcher_view}
use Rattle.matcher.specs.declared.frames.Found.{Found}
use Rattle.path_states.proofs.Gaining.{holds_as}
use Rattle.path_states.proofs.Looking.{one_at, some_at}
use Rattle.matcher.proofs.Framing.{frame_last}
use Rattle.matcher.proofs.matcher.Matcher.first_targets.Goals as goal

pub returns : goal.returns
returns c =
    let v = c.self.inside.states in
    let marks = c.self.inside.frames in
    let go = c.self.invariant in
    let seen = matcher_view v marks c.self.inside.idle c.self.inside.text c.self.inside.signs.items in
    let none : c.self.inside.idle ≡ 0 = (let g = c.if-self-gt0.false in omega arith) in
    let low : length v.states - 1 < length v.states = (let a = go.0 in let b = go.1 in omega arith) in
    let s = some_at v.states (length v.states - 1) low in
    let f = frame_last v marks go s.0 s.1 in
    let found : c.found_here.result.now ≡ f.0.found = c.found_here.ensures ∙ ap found_in f.1 in
    subst (λ (m : MatcherView). Holds c.in_ok-levels.levels.items (FirstTarget m c.args.role)) c.self.view_is
    (holds_as c.in_ok-levels.levels.items (From c.found_here.result.now (IsLevelOf c.args.role)) (FirstTarget seen c.args.role)
    (λ l g. record { frame = frame_of s.0 f.0; last = f.2; here = none; from = subst (λ (z : List Found). From z (IsLevelOf c.args.role) l) found g })
    (λ l t. subst (λ (z : List Found). From z (IsLevelOf c.args.role) l) (sym found)
    (subst (λ (z : FrameView). From z.found (IsLevelOf c.args.role) l) (one_at (frames_of v marks) (length (frames_of v marks) - 1) t.frame (frame_of s.0 f.0) t.last f.2) t.from))
    c.in_ok-levels.ensures)
