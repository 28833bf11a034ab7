use Rattle.std.proofs.Common.{◌≡◌, ℕ, suc, ◌+◌, ◌-◌, List, [], sym, subst, arith, Some, None}
use Rattle.std.specs.Prelude.{slice_get}
use Rattle.std.proofs.lemmas.Option.{slice_get_past}
use Rattle.path_states.specs.Lists.{Holds}
use Rattle.path_states.specs.declared.paths.PathState.{PathState}
use Rattle.path_states.specs.declared.paths.PathTree.{PathTree}
use Rattle.path_states.proofs.Looking.{read_at}
use Rattle.matcher.specs.Frames.{StepsUp, UpFrom, arrived, stepped, nowhere}
use Rattle.matcher.specs.View.{frames_of}
use Rattle.matcher.proofs.upward.origins.Goals as goal

pub loop-done-init : goal.loop-done-init
loop-done-init c = λ out u.
    let e : c.args.steps - 0 ≡ c.args.steps = omega arith in
    subst (λ (n : ℕ). UpFrom c.args.states.now c.args.frames.now n c.args.end c.args.targets.items out) e u

pub loop-done-preserved : goal.loop-done-preserved
loop-done-preserved c = λ out u.
    let l = c.loop-done-test.true in
    let e : suc (c.args.steps - (c.loop-done.done + 1)) ≡ c.args.steps - c.loop-done.done = omega arith in
    let read = read_at c.deref.result.now c.loop-done.number c.in-Some.state.now c.in-Some.ensures.lookup.3.0 c.in-Some.ensures.lookup.1 in
    let there = subst (λ (z : List PathState). slice_get z c.loop-done.number ≡ Some c.in-Some.state.now) c.deref.ensures.value read in
    let at = subst (λ (z : PathTree). slice_get z.states.items c.loop-done.number ≡ Some c.in-Some.state.now) c.tree.ensures there in
    let h : Holds c.in_ok-levels-in-Some.levels.items (StepsUp (frames_of c.args.states.now c.args.frames.now) c.in-Some.state.now c.loop-done.levels.items) =
    subst (λ (z : List ℕ). Holds c.in_ok-levels-in-Some.levels.items (StepsUp (frames_of c.args.states.now c.args.frames.now) c.in-Some.state.now z)) c.as_slice.ensures c.in_ok-levels-in-Some.ensures in
    c.loop-done.invariant out (subst (λ (n : ℕ). UpFrom c.args.states.now c.args.frames.now n c.loop-done.number c.loop-done.levels.items out) e (stepped c.in-Some.state.now at h u))

pub returns-in-None : goal.returns-in-None
returns-in-None c =
    let l = c.loop-done-test.true in
    let e : suc (c.args.steps - (c.loop-done.done + 1)) ≡ c.args.steps - c.loop-done.done = omega arith in
    let past = slice_get_past c.deref.result.now c.loop-done.number c.in-None.ensures.lookup.3 in
    let there = subst (λ (z : List PathState). slice_get z c.loop-done.number ≡ None) c.deref.ensures.value past in
    let none = subst (λ (z : PathTree). slice_get z.states.items c.loop-done.number ≡ None) c.tree.ensures there in
    subst (λ (z : List ℕ). UpFrom c.args.states.now c.args.frames.now c.args.steps c.args.end c.args.targets.items z) (sym c.new.ensures.items)
    (c.loop-done.invariant [] (subst (λ (n : ℕ). UpFrom c.args.states.now c.args.frames.now n c.loop-done.number c.loop-done.levels.items []) e (nowhere none)))

pub returns : goal.returns
returns c =
    let l = c.loop-done-test.false in
    let e : 0 ≡ c.args.steps - c.loop-done.done = omega arith in
    c.loop-done.invariant c.loop-done.levels.items (subst (λ (n : ℕ). UpFrom c.args.states.now c.args.frames.now n c.loop-done.number c.loop-done.levels.items c.loop-done.levels.items) e arrived)
