use Rattle.std.proofs.Common.{◌≡◌, ◌++◌, ℕ, length, List, [], ◌∷◌, refl, sym, ◌∙◌, ap, subst, inl, arith, Some}
use Rattle.std.specs.Prelude.{slice_get}
use Rattle.std.proofs.lemmas.List.{get_or_default, length-append}
use Rattle.std.proofs.lemmas.Option.{slice_get_past, slice_get_within}
use Rattle.tree_laws.proofs.Lists.{In-left, In-right}
use Rattle.path_states.specs.State.{IsMade}
use Rattle.path_states.specs.States.{StatesView, no_state, states_at}
use Rattle.path_states.proofs.Growing.{at_front, at_seam}
use Rattle.path_states.proofs.Looking.{in_at, read_at}
use Rattle.path_states.proofs.Opening.{at_level, length_states}
use Rattle.path_states.proofs.states.PathStates.at.Goals as goal

pub index-requires : goal.index-requires
index-requires c =
    let s = c.self.inside in
    let l = c.self.invariant.there s.here (In-right s.here s.outer.items (s.here ∷ []) (inl refl)) in
    let o = s.known.states.ok.0 in
    omega arith

pub returns-then-level-len-clause-is : goal.returns-then-level-len-clause-is
returns-then-level-len-clause-is c =
    let s = c.self.inside in
    let numbers = s.outer.items ++ s.here ∷ [] in
    let l = c.self.invariant.there s.here (In-right s.here s.outer.items (s.here ∷ []) (inl refl)) in
    let level : c.args.level ≡ length s.outer.items = omega arith in
    let at : slice_get numbers c.args.level ≡ Some s.here = ap (slice_get numbers) level ∙ at_seam s.outer.items s.here in
    ap Some (c.index.ensures ∙ get_or_default s.known.states.items s.here c.index.result.now no_state l)
    ∙ (sym (at_level s.known.states.items numbers c.args.level s.here at) ∙ ap (λ (v : StatesView). slice_get v.states c.args.level) c.self.view_is)

pub returns-then-level-len-clause-made : goal.returns-then-level-len-clause-made
returns-then-level-len-clause-made c =
    let s = c.self.inside in
    let l = c.self.invariant.there s.here (In-right s.here s.outer.items (s.here ∷ []) (inl refl)) in
    subst (λ (v : StatesView). IsMade v.tree.states.items c.index.result.now) c.self.view_is (c.self.invariant.known.right.made s.here c.index.result.now (read_at s.known.states.items s.here c.index.result.now l c.index.ensures))

pub index-requires-in-Some : goal.index-requires-in-Some
index-requires-in-Some c =
    let s = c.self.inside in
    let at = subst (λ (z : List ℕ). slice_get z c.args.level ≡ Some c.in-Some.number.now) c.deref.ensures.value (read_at c.deref.result.now c.args.level c.in-Some.number.now c.in-Some.ensures.lookup.3.0 c.in-Some.ensures.lookup.1) in
    let i = in_at s.outer.items c.args.level c.in-Some.number.now at in
    let l = c.self.invariant.there c.in-Some.number.now (In-left c.in-Some.number.now s.outer.items (s.here ∷ []) i) in
    let o = s.known.states.ok.0 in
    omega arith

pub returns-in-Some-clause-is : goal.returns-in-Some-clause-is
returns-in-Some-clause-is c =
    let s = c.self.inside in
    let at = subst (λ (z : List ℕ). slice_get z c.args.level ≡ Some c.in-Some.number.now) c.deref.ensures.value (read_at c.deref.result.now c.args.level c.in-Some.number.now c.in-Some.ensures.lookup.3.0 c.in-Some.ensures.lookup.1) in
    let i = in_at s.outer.items c.args.level c.in-Some.number.now at in
    let l = c.self.invariant.there c.in-Some.number.now (In-left c.in-Some.number.now s.outer.items (s.here ∷ []) i) in
    let low = slice_get_within s.outer.items c.args.level c.in-Some.number.now at in
    ap Some (c.index-in-Some.ensures ∙ get_or_default s.known.states.items c.in-Some.number.now c.index-in-Some.result.now no_state l)
    ∙ (sym (at_level s.known.states.items (s.outer.items ++ s.here ∷ []) c.args.level c.in-Some.number.now (at_front s.outer.items (s.here ∷ []) c.args.level low ∙ at))
    ∙ ap (λ (v : StatesView). slice_get v.states c.args.level) c.self.view_is)

pub returns-in-Some-clause-made : goal.returns-in-Some-clause-made
returns-in-Some-clause-made c =
    let s = c.self.inside in
    let at = subst (λ (z : List ℕ). slice_get z c.args.level ≡ Some c.in-Some.number.now) c.deref.ensures.value (read_at c.deref.result.now c.args.level c.in-Some.number.now c.in-Some.ensures.lookup.3.0 c.in-Some.ensures.lookup.1) in
    let i = in_at s.outer.items c.args.level c.in-Some.number.now at in
    let l = c.self.invariant.there c.in-Some.number.now (In-left c.in-Some.number.now s.outer.items (s.here ∷ []) i) in
    subst (λ (v : StatesView). IsMade v.tree.states.items c.index-in-Some.result.now) c.self.view_is
    (c.self.invariant.known.right.made c.in-Some.number.now c.index-in-Some.result.now (read_at s.known.states.items c.in-Some.number.now c.index-in-Some.result.now l c.index-in-Some.ensures))

pub returns-in-None-clause-is : goal.returns-in-None-clause-is
returns-in-None-clause-is c =
    let s = c.self.inside in
    let past = c.in-None.ensures.lookup.3 in
    let other = c.if-level-len.false in
    let same = ap length c.deref.ensures.value in
    let long = length-append s.outer.items (s.here ∷ []) in
    let all = length_states s.known.states.items (s.outer.items ++ s.here ∷ []) in
    sym (slice_get_past (states_at s.known.states.items (s.outer.items ++ s.here ∷ [])) c.args.level (omega arith)) ∙ ap (λ (v : StatesView). slice_get v.states c.args.level) c.self.view_is
