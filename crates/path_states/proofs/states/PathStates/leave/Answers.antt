use Rattle.std.proofs.Common.{◌≡◌, ◌+◌, ◌<◌, ◌≤◌, ◌++◌, ℕ, length, List, [], ◌∷◌, sym, ◌∙◌, ap, subst, arith}
use Rattle.std.proofs.lemmas.List.{append-nil, length-append}
use Rattle.tree_laws.proofs.Lists.{In}
use Rattle.path_states.specs.Open.{seen_with, unkept}
use Rattle.path_states.specs.State.{StateView}
use Rattle.path_states.specs.States.{StatesView, ForgetInOrder, outer_states, states_at}
use Rattle.path_states.proofs.Opening.{few_left, order_left, outer_left, right_left, states_left, there_left}
use Rattle.path_states.proofs.states.PathStates.leave.Goals as goal

pub invariant_of-self : goal.invariant_of-self
invariant_of-self c =
    let s = c.self.inside in
    let left = c.pop.new.self.items ++ c.in-Some.above ∷ [] in
    let there = subst (λ (z : List ℕ). (n : ℕ) → In n (z ++ s.here ∷ []) → n < length s.known.states.items) c.in-Some.ensures.items c.self.invariant.there in
    let order = subst (λ (z : List ℕ). ForgetInOrder s.known.kept (z ++ s.here ∷ [])) c.in-Some.ensures.items c.self.invariant.order in
    let few = subst (λ (z : List ℕ). length s.known.states.items ≤ s.known.kept + length (unkept s.known.kept (z ++ s.here ∷ []))) c.in-Some.ensures.items c.self.invariant.few in
    let e = c.forget.ensures in
    let tree = s.tree.states.items in
    let names = s.steps.names.items in
    record {
      known = record { right = right_left tree names s.known c.forget.new.self left s.here e.kept e.moves e.states there order e.bytes e.bound c.self.invariant.known.right; index = c.self.invariant.known.index };
      there = there_left tree names s.known c.forget.new.self left s.here e.kept e.moves e.states there order;
      order = order_left tree names s.known c.forget.new.self left s.here e.kept e.moves e.states there order;
      few = few_left tree names s.known c.forget.new.self left s.here e.kept e.moves e.states there order few;
    }

pub returns-in-Some : goal.returns-in-Some
returns-in-Some c =
    let s = c.self.inside in
    let left = c.pop.new.self.items ++ c.in-Some.above ∷ [] in
    let there = subst (λ (z : List ℕ). (n : ℕ) → In n (z ++ s.here ∷ []) → n < length s.known.states.items) c.in-Some.ensures.items c.self.invariant.there in
    let order = subst (λ (z : List ℕ). ForgetInOrder s.known.kept (z ++ s.here ∷ [])) c.in-Some.ensures.items c.self.invariant.order in
    let e = c.forget.ensures in
    let tree = s.tree.states.items in
    let names = s.steps.names.items in
    let long = length-append c.pop.new.self.items (c.in-Some.above ∷ []) in
    let some : 0 < length left = omega arith in
    let states : states_at c.forget.new.self.states.items left ≡ outer_states (states_at s.known.states.items (s.outer.items ++ s.here ∷ [])) =
    states_left tree names s.known c.forget.new.self left s.here e.kept e.moves e.states there order
    ∙ (sym (outer_left tree names s.known c.forget.new.self left s.here e.kept e.moves e.states there order some)
    ∙ ap (λ (z : List ℕ). outer_states (states_at s.known.states.items (z ++ s.here ∷ []))) (sym c.in-Some.ensures.items)) in
    ap (seen_with s.tree names (states_at c.forget.new.self.states.items left)) e.bound
    ∙ (ap (λ (ss : List StateView). seen_with s.tree names ss s.known.bound) states ∙ ap (λ (v : StatesView). record v { states = outer_states v.states }) c.self.view_is)

pub invariant_of-self-in-None : goal.invariant_of-self-in-None
invariant_of-self-in-None c =
    let s = c.self.inside in
    let same : s.outer.items ≡ c.pop.new.self.items = c.in-None.ensures.items ∙ append-nil c.pop.new.self.items in
    record {
      known = c.self.invariant.known;
      there = subst (λ (z : List ℕ). (n : ℕ) → In n (z ++ s.here ∷ []) → n < length s.known.states.items) same c.self.invariant.there;
      order = subst (λ (z : List ℕ). ForgetInOrder s.known.kept (z ++ s.here ∷ [])) same c.self.invariant.order;
      few = subst (λ (z : List ℕ). length s.known.states.items ≤ s.known.kept + length (unkept s.known.kept (z ++ s.here ∷ []))) same c.self.invariant.few;
    }
