use Rattle.std.proofs.Common.{ℕ, ◌+◌, [], ◌⊎◌, inl, inr, sym, arith}
use Rattle.path_states.proofs.Climbing.{less_or}
use Rattle.path_states.proofs.Gaining.{gains_same, gains_none, gains_two, gains_as, holds_from}
use Rattle.matcher.specs.Frames.{HitAt, HitOver}
use Rattle.matcher.specs.View.{frames_of}
use Rattle.matcher.proofs.upward.ancestors.Goals as goal

pub loop-other-init : goal.loop-other-init
loop-other-init c =
    let Q : ℕ → Type 0 = HitOver (frames_of c.args.states.now c.args.frames.now) c.args.state 0 in
    gains_same [] [] c.new-found.result.items Q (sym c.new-found.ensures.items) (gains_none [] Q (λ y q. let l = q.0 in omega arith))

pub loop-other-preserved : goal.loop-other-preserved
loop-other-preserved c =
    let Q : ℕ → Type 0 = HitOver (frames_of c.args.states.now c.args.frames.now) c.args.state c.loop-other.other in
    let R : ℕ → Type 0 = HitAt (frames_of c.args.states.now c.args.frames.now) c.args.state c.loop-other.other in
    let S : ℕ → Type 0 = HitOver (frames_of c.args.states.now c.args.frames.now) c.args.state (c.loop-other.other + 1) in
    gains_as [] c.put_level.new.found.items (λ k. Q k ⊎ R k) S
    (λ y s. elim s [ inl q ↦ (let l = q.0 in omega arith, q.1) | inr r ↦ (let e = r.0 in omega arith, r.1) ])
    (λ y q. elim (less_or y c.loop-other.other q.0) [ inl l ↦ inl (l, q.1) | inr e ↦ inr (e, q.1) ])
    (gains_two [] c.loop-other.found.items c.put_level.new.found.items Q R c.loop-other.invariant c.in_ok-put_level.ensures)

pub returns : goal.returns
returns c =
    let Q : ℕ → Type 0 = HitOver (frames_of c.args.states.now c.args.frames.now) c.args.state c.loop-other.other in
    let S : ℕ → Type 0 = HitOver (frames_of c.args.states.now c.args.frames.now) c.args.state c.args.level in
    let a = c.loop-other.auto.other-end in
    let b = c.loop-other-test.false in
    holds_from c.loop-other.found.items S
    (gains_as [] c.loop-other.found.items Q S (λ y q. (let l = q.0 in omega arith, q.1)) (λ y q. (let l = q.0 in omega arith, q.1)) c.loop-other.invariant)
