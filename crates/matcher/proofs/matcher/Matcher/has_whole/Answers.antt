use Rattle.std.proofs.Common.{◌≡◌, ◌-◌, ℕ, List, length, sym, ◌∙◌, ap, subst}
use Rattle.gcx_model.specs.Members.{In}
use Rattle.path_states.specs.State.{StateView}
use Rattle.matcher.specs.Ahead.{HasWhole}
use Rattle.matcher.specs.View.{FrameView, MatcherView, frame_of}
use Rattle.path_states.proofs.Gaining.{any_has, any_none}
use Rattle.path_states.proofs.Looking.{one_at}
use Rattle.matcher.proofs.Framing.{frame_last, last_frame}
use Rattle.matcher.proofs.matcher.Matcher.has_whole.Goals as goal

pub returns-clause-yes : goal.returns-clause-yes
returns-clause-yes c = λ h.
    let f = frame_last c.self.inside.states c.self.inside.frames c.self.invariant c.here.result.now c.here.ensures.is in
    subst (λ (m : MatcherView). HasWhole m.frames c.args.role) c.self.view_is (record {
      frame = frame_of c.here.result.now f.0;
      last = f.2;
      member = subst (λ (z : List ℕ). In c.args.role z) c.whole.ensures (any_has c.args.role c.whole.result.now (sym c.contains.ensures.value ∙ h));
    })

pub returns-clause-no : goal.returns-clause-no
returns-clause-no c = λ h k.
    let v = c.self.inside.states in
    let t = subst (λ (m : MatcherView). HasWhole m.frames c.args.role) (sym c.self.view_is) k in
    let f = last_frame v c.self.inside.frames c.self.invariant t.frame t.last in
    let same : f.0 ≡ c.here.result.now = one_at v.states (length v.states - 1) f.0 c.here.result.now f.1 c.here.ensures.is in
    let whole : t.frame.whole ≡ c.whole.result.now = ap (λ (z : FrameView). z.whole) f.2.2 ∙ (ap (λ (z : StateView). z.whole) same ∙ sym c.whole.ensures) in
    any_none c.args.role c.whole.result.now (sym c.contains.ensures.value ∙ h) (subst (λ (z : List ℕ). In c.args.role z) whole t.member)
