use Rattle.std.proofs.Common.{◌≡◌, ◌*◌, length, Some}
use Rattle.gcx_model.specs.Members.{In}
use Rattle.path_states.specs.declared.moves.Move.{Move}
use Rattle.path_states.proofs.moves.Moves.grown.Given as goal

abbrev pub invariant-loop-slot : goal.invariant-loop-slot
invariant-loop-slot l = record {
  count : length l.moves.slots.items ≡ 2 * length l.self.slots.items;
  moves : (m : Move) → In (Some m) l.moves.slots.items → In (Some m) l.self.slots.items;
}
