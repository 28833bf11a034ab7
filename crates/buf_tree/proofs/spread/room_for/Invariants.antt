use Rattle.std.proofs.Common.{vec_capacity}
use Rattle.buf_tree.proofs.Tables.{HasRoomTo}
use Rattle.buf_tree.proofs.spread.room_for.Given as goal

abbrev pub invariant-loop-slot : goal.invariant-loop-slot
invariant-loop-slot l = HasRoomTo l.tops l.slot-index (vec_capacity l.flags)
