use Rattle.std.proofs.Common.{◌≡◌, ◌++◌, ℕ, length, List, [], ◌∷◌, ◌∙◌, ap, subst, arith}
use Rattle.path_states.specs.Branches.{IsStepIndex}
use Rattle.path_states.specs.State.{StateView, Gathers, IsMade}
use Rattle.path_states.specs.States.{states_at}
use Rattle.path_states.specs.declared.paths.PathState.{PathState}
use Rattle.path_states.proofs.Opening.{first_open}
use Rattle.path_states.proofs.states.PathStates.new.Goals as goal

pub invariant_of-result : goal.invariant_of-result
invariant_of-result c =
    let tree = c.in_ok-tree.tree.states.items in
    let names = c.in_ok-steps.steps.names.items in
    let made = subst (λ (z : List PathState). IsMade z c.in_ok-first.first) c.deref-2.ensures.value (c.in_ok-first.ensures.made tt) in
    let start = first_open c.in_ok-known.known c.in_ok-first.first c.new-2.result.items c.in_ok-known.ensures.first c.new-2.ensures.items in
    let right = c.in_ok-known.ensures.right tree names made in
    record {
      known = record { right = right; index = subst (λ (z : List PathState). IsStepIndex z c.in_ok-steps.steps) c.deref.ensures.value c.in_ok-steps.ensures };
      there = start.0;
      order = start.1;
      few = (let e = ap length c.in_ok-known.ensures.first in let k = right.room.some in omega arith);
    }

pub returns-clause-most : goal.returns-clause-most
returns-clause-most c = (ap (λ z. z.states) c.in_ok-known.ensures.bound, ap (λ z. z.bytes) c.in_ok-known.ensures.bound)

pub returns-clause-first : goal.returns-clause-first
returns-clause-first c =
    let s = c.in_ok-first.first in
    let active : c.push.new.self.items ≡ 0 ∷ [] = c.in_ok-push.ensures.items ∙ ap (λ (z : List ℕ). z ++ 0 ∷ []) c.new-active.ensures.items in (
      s,
      ap (λ (z : List ℕ). states_at c.in_ok-known.known.states.items (z ++ 0 ∷ [])) c.new-2.ensures.items ∙ ap (λ (z : List StateView). states_at z (0 ∷ [])) c.in_ok-known.ensures.first,
      record { active = c.in_ok-first.ensures.active ∙ active; gathers = subst (λ (z : List PathState). Gathers z [] [] s) c.deref-2.ensures.value c.in_ok-first.ensures.gathers },
    )
