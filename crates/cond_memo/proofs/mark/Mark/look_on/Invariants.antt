use Rattle.std.proofs.Common.{◌≡◌}
use Rattle.cond_memo.proofs.MarkLooks.{Looking, look_left}
use Rattle.cond_memo.proofs.mark.Mark.look_on.Given as goal

abbrev pub invariant-rows : goal.invariant-rows
invariant-rows g l = record {
  frame : l.self ≡ record l.fn.self { waiting = l.self.waiting };
  looking : Looking l.buffer.rows l.buffer.nodes l.fn.self l.self.waiting l.node.0 l.at;
}

abbrev pub decreases-rows : goal.decreases-rows
decreases-rows g l = look_left l.buffer.rows l.at
