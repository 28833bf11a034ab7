use Rattle.std.proofs.Common.{◌+◌, length}
use Rattle.path_states.specs.Room.{slot_bytes}
use Rattle.path_states.proofs.Rooming.{slots_double}
use Rattle.path_states.proofs.remembered.Remembered.may_grow.Goals as goal

pub returns : goal.returns
returns c = λ h.
    let known = c.args.self.now in
    let room = c.has_room.ensures h in
    let slots = slot_bytes (length known.moves.slots.items) in
    (slots_double (known.bytes + slots) slots c.bytes.result known.bound.bytes c.bytes.ensures room.0 room.1, room.1)
