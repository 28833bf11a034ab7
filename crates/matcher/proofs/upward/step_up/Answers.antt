use Rattle.std.proofs.Common.{ℕ, ◌<◌, sym, subst, arith}
use Rattle.gcx_base.specs.declared.steps.Axis.{Axis}
use Rattle.path_states.specs.Lists.{From}
use Rattle.path_states.proofs.Gaining.{holds_as}
use Rattle.matcher.specs.Frames.{HitOver, HitParent, Over, StepsUp}
use Rattle.matcher.specs.View.{frames_of}
use Rattle.matcher.proofs.upward.step_up.Goals as goal

pub returns-in_ok-found-in-Child : goal.returns-in_ok-found-in-Child
returns-in_ok-found-in-Child c =
    let frames = frames_of c.args.states.now c.args.frames.now in
    holds_as c.in_ok-found-in-Child.found.items (HitParent frames c.args.state.now.parent c.args.levels.now) (StepsUp frames c.args.state.now c.args.levels.now)
    (λ l q. record { over = subst (λ (a : Axis). Over a c.args.levels.now l) (sym c.in-Child.is) q.0; hit = q.1 })
    (λ l u. (subst (λ (a : Axis). Over a c.args.levels.now l) c.in-Child.is u.over, u.hit))
    c.in_ok-found-in-Child.ensures

pub returns-in_ok-found-in-Descendant : goal.returns-in_ok-found-in-Descendant
returns-in_ok-found-in-Descendant c =
    let frames = frames_of c.args.states.now c.args.frames.now in
    let below : (l : ℕ) → From c.args.levels.now (λ (m k : ℕ). k < m) l → l < c.greatest.result = (λ l f. let a = c.greatest.ensures.least f.of f.member in let b = f.is in omega arith) in
    holds_as c.in_ok-found-in-Descendant.found.items (HitOver frames c.args.state.now.parent c.greatest.result) (StepsUp frames c.args.state.now c.args.levels.now)
    (λ l q. record { over = subst (λ (a : Axis). Over a c.args.levels.now l) (sym c.in-Descendant.is) (record { of = c.greatest.result; member = c.greatest.ensures.one l q.0; is = q.0 }); hit = q.1 })
    (λ l u. (below l (subst (λ (a : Axis). Over a c.args.levels.now l) c.in-Descendant.is u.over), u.hit))
    c.in_ok-found-in-Descendant.ensures
