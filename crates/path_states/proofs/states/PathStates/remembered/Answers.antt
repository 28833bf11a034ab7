use Rattle.std.proofs.Common.{◌≡◌, List, subst, Some}
use Rattle.std.specs.Prelude.{slice_get}
use Rattle.path_states.specs.Room.{IsWithinRoom}
use Rattle.path_states.specs.State.{StateView, IsMade}
use Rattle.path_states.specs.States.{StatesView}
use Rattle.path_states.proofs.Looking.{at_in}
use Rattle.path_states.proofs.Opening.{at_take}
use Rattle.path_states.proofs.Rooming.{within_room}
use Rattle.path_states.proofs.states.PathStates.remembered.Goals as goal

pub kept_states-requires : goal.kept_states-requires
kept_states-requires c = c.self.invariant.known.right.kept

pub returns-clause-made : goal.returns-clause-made
returns-clause-made c = λ x i.
    let known = c.self.inside.known in
    let r = at_in c.kept_states.result.now x i in
    subst (λ (v : StatesView). IsMade v.tree.states.items x) c.self.view_is
    (c.self.invariant.known.right.made r.0 x (at_take known.states.items known.kept r.0 x (subst (λ (z : List StateView). slice_get z r.0 ≡ Some x) c.kept_states.ensures r.1)))

pub returns-clause-within : goal.returns-clause-within
returns-clause-within c =
    subst (λ (v : StatesView). IsWithinRoom v.most_states v.most_bytes c.kept_states.result.now c.len.result) c.self.view_is
    (within_room c.self.inside.known c.kept_states.result.now c.len.result c.self.invariant.known.right.room c.self.invariant.known.right.kept c.kept_states.ensures c.len.ensures)
