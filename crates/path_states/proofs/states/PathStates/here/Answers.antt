use Rattle.std.proofs.Common.{[], ◌∷◌, refl, sym, ◌∙◌, ap, subst, inl, arith, Some}
use Rattle.std.proofs.lemmas.List.{get_or_default}
use Rattle.tree_laws.proofs.Lists.{In-right}
use Rattle.path_states.specs.State.{IsMade}
use Rattle.path_states.specs.States.{StatesView, last_state, no_state}
use Rattle.path_states.proofs.Looking.{read_at}
use Rattle.path_states.proofs.Opening.{last_here}
use Rattle.path_states.proofs.states.PathStates.here.Goals as goal

pub index-requires : goal.index-requires
index-requires c =
    let s = c.self.inside in
    let l = c.self.invariant.there s.here (In-right s.here s.outer.items (s.here ∷ []) (inl refl)) in
    let o = s.known.states.ok.0 in
    omega arith

pub returns-clause-is : goal.returns-clause-is
returns-clause-is c =
    let s = c.self.inside in
    let l = c.self.invariant.there s.here (In-right s.here s.outer.items (s.here ∷ []) (inl refl)) in
    ap (λ (v : StatesView). last_state v.states) (sym c.self.view_is)
    ∙ (last_here s.known.states.items s.outer.items s.here
    ∙ ap Some (get_or_default s.known.states.items s.here no_state c.index.result.now l ∙ sym c.index.ensures))

pub returns-clause-made : goal.returns-clause-made
returns-clause-made c =
    let s = c.self.inside in
    let l = c.self.invariant.there s.here (In-right s.here s.outer.items (s.here ∷ []) (inl refl)) in
    subst (λ (v : StatesView). IsMade v.tree.states.items c.index.result.now) c.self.view_is (c.self.invariant.known.right.made s.here c.index.result.now (read_at s.known.states.items s.here c.index.result.now l c.index.ensures))
