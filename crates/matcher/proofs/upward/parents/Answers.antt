use Rattle.std.proofs.Common.{ℕ, suc, [], sym, subst, refl}
use Rattle.gcx_model.specs.Members.{In}
use Rattle.path_states.specs.Lists.{From}
use Rattle.path_states.proofs.Gaining.{gains_same, gains_start, gains_next, gains_all, gains_as, holds_from}
use Rattle.matcher.specs.Frames.{HitAbove, HitParent}
use Rattle.matcher.specs.View.{frames_of}
use Rattle.matcher.proofs.upward.parents.Goals as goal

pub loop-level-init : goal.loop-level-init
loop-level-init c =
    let R : ℕ → ℕ → Type 0 = HitAbove (frames_of c.args.states.now c.args.frames.now) c.args.state in
    gains_same [] [] c.new-found.result.items (From [] R) (sym c.new-found.ensures.items) (gains_start [] R)

pub loop-level-preserved : goal.loop-level-preserved
loop-level-preserved c =
    gains_next [] c.loop-level.found.items c.put_parent.new.found.items c.args.levels.now (HitAbove (frames_of c.args.states.now c.args.frames.now) c.args.state) c.loop-level.level-index c.loop-level-test.true c.loop-level.invariant c.in_ok-put_parent.ensures

pub returns : goal.returns
returns c =
    let R : ℕ → ℕ → Type 0 = HitAbove (frames_of c.args.states.now c.args.frames.now) c.args.state in
    let Q : ℕ → Type 0 = HitParent (frames_of c.args.states.now c.args.frames.now) c.args.state c.args.levels.now in
    holds_from c.loop-level.found.items Q
    (gains_as [] c.loop-level.found.items (From c.args.levels.now R) Q
    (λ y f. (subst (λ (z : ℕ). In z c.args.levels.now) f.is.0 f.member, f.is.1))
    (λ y q. record { of = suc y; member = q.0; is = (refl, q.1) })
    (gains_all [] c.loop-level.found.items c.args.levels.now R c.loop-level.level-index c.loop-level-test.false c.loop-level.invariant))
