use Rattle.std.proofs.Common.{◌≡◌, ℕ, List, [], ◌∷◌, ◌++◌, false, length, refl, sym, ◌∙◌, ap, subst, arith, Some}
use Rattle.std.specs.Prelude.{slice_get}
use Rattle.gcx_model.specs.PlanView.{plan_tree}
use Rattle.path_states.specs.State.{StateView, IsMade}
use Rattle.path_states.specs.States.{last_state}
use Rattle.matcher.specs.Parts.{NodeMarks, new_marks}
use Rattle.matcher.specs.View.{frame_of, frames_of, frames_with, matcher_view}
use Rattle.matcher.proofs.Beginning.{stands_open}
use Rattle.matcher.proofs.matcher.Matcher.bounded.Goals as goal

pub invariant_of-result : goal.invariant_of-result
invariant_of-result c =
    let a = ap (λ (z : List StateView). length z) c.in_ok-states.ensures.first.1 in
    let b = ap (λ (z : List NodeMarks). length z) (c.in_ok-add.ensures.added ∙ ap (λ (z : List NodeMarks). z ++ new_marks c.contexts.result.now [] ∷ []) c.new-frames.ensures) in
    (omega arith, omega arith)

pub returns-clause-most : goal.returns-clause-most
returns-clause-most c = c.in_ok-states.ensures.most.1

pub returns-clause-stands : goal.returns-clause-stands
returns-clause-stands c = λ core good placed.
    let v = c.in_ok-states.states in
    let first = c.in_ok-states.ensures.first in
    let x = first.0 in
    let here : slice_get (x ∷ []) 0 ≡ Some c.here.result.now = subst (λ (z : List StateView). last_state z ≡ Some c.here.result.now) first.1 c.here.ensures.is in
    let same : x ≡ c.here.result.now = cc in
    let roles : c.contexts.result.now ≡ x.contexts = c.contexts.ensures ∙ ap (λ (z : StateView). z.contexts) (sym same) in
    let marks : c.add.new.self ≡ new_marks x.contexts [] ∷ [] =
    c.in_ok-add.ensures.added ∙ (ap (λ (z : List NodeMarks). z ++ new_marks c.contexts.result.now [] ∷ []) c.new-frames.ensures ∙ ap (λ (z : List ℕ). new_marks z [] ∷ []) roles) in
    let frames : frames_of v c.add.new.self ≡ frame_of x (new_marks x.contexts []) ∷ [] = ap (frames_of v) marks ∙ ap (λ (z : List StateView). frames_with z (new_marks x.contexts [] ∷ [])) first.1 in
    stands_open (matcher_view v c.add.new.self 0 false c.new-2.result.items) core good (plan_tree c.args.plan.now) placed c.in_ok-states.ensures.tree x first.2
    (subst (λ (z : StateView). IsMade v.tree.states.items z) (sym same) c.here.ensures.made) frames refl refl c.new-2.ensures.items
