use Rattle.std.proofs.Common.{◌≡◌, length}
use Rattle.path_states.specs.Moves.{HasNone}
use Rattle.path_states.proofs.moves.empty_slots.Given as goal

abbrev pub invariant-loop : goal.invariant-loop
invariant-loop l = record {
  none : HasNone l.slots.items;
  count : length l.slots.items ≡ l.counter;
}
