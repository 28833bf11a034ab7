use Rattle.std.proofs.Common.{◌≡◌, ◌+◌, ◌<◌, ◌≤◌, ◌++◌, ℕ, length, List, [], ◌∷◌, refl, sym, ◌∙◌, ap, subst, inl, arith, Ok, Err, Result}
use Rattle.std.specs.Prelude.{OnErr}
use Rattle.tree_laws.proofs.Lists.{In, In-right}
use Rattle.path_states.specs.Open.{seen_with, unkept}
use Rattle.path_states.specs.State.{StateView}
use Rattle.path_states.specs.States.{StatesView, Enters, ForgetInOrder, states_at}
use Rattle.path_states.proofs.Opening.{few_more, known_same, leads_more, leads_over, made_more, order_now, state_at, states_more, there_more}
use Rattle.path_states.proofs.states.PathStates.enter.Goals as goal

on_err : {T E P : Type 0} (r : Result T E) → P → OnErr r P
on_err (Ok x) p = tt
on_err (Err e) p = p

pub invariant_of-self : goal.invariant_of-self
invariant_of-self c =
    let s = c.self.inside in
    let same : s.outer.items ≡ c.reserve.new.self.items = sym c.reserve.ensures.items in
    record {
      known = c.self.invariant.known;
      there = subst (λ (z : List ℕ). (n : ℕ) → In n (z ++ s.here ∷ []) → n < length s.known.states.items) same c.self.invariant.there;
      order = subst (λ (z : List ℕ). ForgetInOrder s.known.kept (z ++ s.here ∷ [])) same c.self.invariant.order;
      few = subst (λ (z : List ℕ). length s.known.states.items ≤ s.known.kept + length (unkept s.known.kept (z ++ s.here ∷ []))) same c.self.invariant.few;
    }

pub child-requires : goal.child-requires
child-requires c = let s = c.self.inside in record { known = c.self.invariant.there s.here (In-right s.here s.outer.items (s.here ∷ []) (inl refl)) }

pub invariant_of-self-in_err-to : goal.invariant_of-self-in_err-to
invariant_of-self-in_err-to c =
    let s = c.self.inside in
    let same = c.in_err-to.ensures.err in
    let outer : s.outer.items ≡ c.reserve.new.self.items = sym c.reserve.ensures.items in
    let states = ap length same.states in
    let few = subst (λ (k : ℕ). length s.known.states.items ≤ k + length (unkept k (s.outer.items ++ s.here ∷ []))) (sym same.kept) c.self.invariant.few in
    record {
      known = known_same s.tree.states.items s.steps s.known c.child.new.self same c.self.invariant.known;
      there = subst (λ (z : List ℕ). (n : ℕ) → In n (z ++ s.here ∷ []) → n < length c.child.new.self.states.items) outer (λ n i. (let l = c.self.invariant.there n i in omega arith));
      order = subst (λ (z : List ℕ). ForgetInOrder c.child.new.self.kept (z ++ s.here ∷ [])) outer (subst (λ (z : ℕ). ForgetInOrder z (s.outer.items ++ s.here ∷ [])) (sym same.kept) c.self.invariant.order);
      few = subst (λ (z : List ℕ). length c.child.new.self.states.items ≤ c.child.new.self.kept + length (unkept c.child.new.self.kept (z ++ s.here ∷ []))) outer (omega arith);
    }

pub invariant_of-self-2 : goal.invariant_of-self-2
invariant_of-self-2 c =
    let s = c.self.inside in
    let tree = s.tree.states.items in
    let names = s.steps.names.items in
    let l = leads_over c.deref.result.now s.tree.states.items s.steps s.known c.child.new.self s.here c.args.number c.in_ok-to.to c.deref.ensures.value c.in_ok-to.ensures.ok c.self.invariant.known in
    let now = c.child.new.self in
    let to = c.in_ok-to.to in
    let items : s.outer.items ++ s.here ∷ [] ≡ c.push_reserved.new.self.items = sym (c.push_reserved.ensures.items ∙ ap (λ (z : List ℕ). z ++ s.here ∷ []) c.reserve.ensures.items) in
    let there = c.self.invariant.there in
    let order = c.self.invariant.order in
    record {
      known = record { right = l.right; index = c.self.invariant.known.index };
      there = subst (λ (z : List ℕ). (n : ℕ) → In n (z ++ to ∷ []) → n < length now.states.items) items (there_more tree names s.known now s.outer.items s.here c.args.number to l there order);
      order = subst (λ (z : List ℕ). ForgetInOrder now.kept (z ++ to ∷ [])) items (order_now tree names s.known now s.outer.items s.here c.args.number to l there order);
      few = subst (λ (z : List ℕ). length now.states.items ≤ now.kept + length (unkept now.kept (z ++ to ∷ []))) items
          (few_more tree names s.known now s.outer.items s.here c.args.number to l there order c.self.invariant.known.right.kept c.self.invariant.few);
    }

pub returns-clause-entered : goal.returns-clause-entered
returns-clause-entered c =
    let s = c.self.inside in
    let tree = s.tree.states.items in
    let names = s.steps.names.items in
    let l = leads_over c.deref.result.now s.tree.states.items s.steps s.known c.child.new.self s.here c.args.number c.in_ok-to.to c.deref.ensures.value c.in_ok-to.ensures.ok c.self.invariant.known in
    let now = c.child.new.self in
    let to = c.in_ok-to.to in
    let state = state_at now.states.items to in
    let items : c.push_reserved.new.self.items ≡ s.outer.items ++ s.here ∷ [] = c.push_reserved.ensures.items ∙ ap (λ (z : List ℕ). z ++ s.here ∷ []) c.reserve.ensures.items in
    let states : states_at now.states.items (c.push_reserved.new.self.items ++ to ∷ []) ≡ states_at s.known.states.items (s.outer.items ++ s.here ∷ []) ++ state ∷ [] =
    ap (λ (z : List ℕ). states_at now.states.items (z ++ to ∷ [])) items
    ∙ states_more tree names s.known now s.outer.items s.here c.args.number to l c.self.invariant.there c.self.invariant.order in
    let all = states_at now.states.items (c.push_reserved.new.self.items ++ to ∷ []) in
    let view : StatesView = seen_with s.tree names all now.bound in
    subst (λ (v : StatesView). Enters v view c.args.number) c.self.view_is (record {
      state = state;
      is = ap (seen_with s.tree names all) l.bound ∙ ap (λ (ss : List StateView). seen_with s.tree names ss s.known.bound) states;
      made = made_more tree names s.known now s.outer.items s.here c.args.number to l c.self.invariant.there c.self.invariant.order;
      leads = leads_more tree names s.known now s.outer.items s.here c.args.number to l c.self.invariant.there c.self.invariant.order;
    })
