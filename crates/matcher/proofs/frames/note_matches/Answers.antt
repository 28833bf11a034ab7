use Rattle.std.proofs.Common.{◌≡◌, ℕ, ◌<◌, ◌+◌, ◌⊎◌, inl, inr, arith}
use Rattle.matcher.specs.Stacks.{IsIn}
use Rattle.path_states.proofs.Climbing.{less_or}
use Rattle.matcher.proofs.Noting.{noted_none, noted_two, noted_as}
use Rattle.matcher.proofs.frames.note_matches.Goals as goal

pub loop-i-init : goal.loop-i-init
loop-i-init c = noted_none c.args.contexts.now (λ j r. (IsIn c.args.range j × (j < c.args.range.from)) × (c.args.role ≡ r)) (λ j r o q. let a = q.0.0.0 in let b = q.0.1 in omega arith)

pub loop-i-preserved : goal.loop-i-preserved
loop-i-preserved c =
    let Q : ℕ → ℕ → Type 0 = λ j r. (IsIn c.args.range j × (j < c.loop-i.i)) × (c.args.role ≡ r) in
    let R : ℕ → ℕ → Type 0 = λ j r. (c.loop-i.i ≡ j) × (c.args.role ≡ r) in
    let S : ℕ → ℕ → Type 0 = λ j r. (IsIn c.args.range j × (j < c.loop-i.i + 1)) × (c.args.role ≡ r) in
    let low = c.loop-i.auto.i in
    let high = c.loop-i-test.true in
    noted_as c.args.contexts.now c.note_match.new.contexts (λ j r. Q j r ⊎ R j r) S
    (λ j r s. elim s [
      | inl q ↦ (let a = q.0.1 in ((q.0.0, omega arith), q.1))
      | inr q ↦ (let e = q.0 in (((omega arith, omega arith), omega arith), q.1))
    ])
    (λ j r q. elim (less_or j c.loop-i.i q.0.1) [ inl l ↦ inl ((q.0.0, l), q.1) | inr e ↦ inr (e, q.1) ])
    (noted_two c.args.contexts.now c.loop-i.contexts c.note_match.new.contexts Q R c.loop-i.invariant c.note_match.ensures)

pub returns : goal.returns
returns c =
    let past = c.loop-i-test.false in
    noted_as c.args.contexts.now c.loop-i.contexts (λ j r. (IsIn c.args.range j × (j < c.loop-i.i)) × (c.args.role ≡ r)) (λ j r. IsIn c.args.range j × (c.args.role ≡ r))
    (λ j r q. (q.0.0, q.1))
    (λ j r q. (let b = q.0.1 in ((q.0, omega arith), q.1)))
    c.loop-i.invariant
