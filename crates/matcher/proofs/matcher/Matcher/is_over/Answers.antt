use Rattle.std.proofs.Common.{◌≡◌, ◌-◌, ℕ, List, [], length, sym, ◌∙◌, ap, subst, inl, inr}
use Rattle.gcx_model.specs.Members.{In}
use Rattle.path_states.specs.State.{StateView}
use Rattle.matcher.specs.Entering.{IsOver}
use Rattle.matcher.specs.View.{FrameView}
use Rattle.path_states.proofs.Looking.{one_at}
use Rattle.matcher.proofs.Framing.{last_frame}
use Rattle.matcher.proofs.matcher.Matcher.is_over.Goals as goal

pub returns : goal.returns
returns c = λ h.
    let v = c.self.inside.states in
    let s = c.here.result.now in
    let dead = c.here.ensures.made.over (sym c.is_over.ensures ∙ h) in
    subst IsOver c.self.view_is (record {
      nothing = λ frame kind d at b.
          let l = last_frame v c.self.inside.frames c.self.invariant frame at in
          let same : l.0 ≡ s = one_at v.states (length v.states - 1) l.0 s l.1 c.here.ensures.is in
          let active : frame.active ≡ s.active = ap (λ (z : FrameView). z.active) l.2.2 ∙ ap (λ (z : StateView). z.active) same in
          let pending : frame.pending ≡ [] = ap (λ (z : FrameView). z.pending) l.2.2 ∙ (ap (λ (z : StateView). z.pending) same ∙ dead.pending) in
          elim b [
            | inl f ↦ (let u = f.is in
                dead.child_edges u.from.of (record { of = f.of; member = subst (λ (z : List ℕ). In f.of z) active f.member; is = record { state = u.state; at = u.at; member = u.from.member } }))
            | inr f ↦ subst (λ (z : List ℕ). In f.of z) pending f.member
          ];
      pending = λ frame at.
          let l = last_frame v c.self.inside.frames c.self.invariant frame at in
          let same : l.0 ≡ s = one_at v.states (length v.states - 1) l.0 s l.1 c.here.ensures.is in
          ap (λ (z : FrameView). z.pending) l.2.2 ∙ (ap (λ (z : StateView). z.pending) same ∙ dead.pending);
    })
