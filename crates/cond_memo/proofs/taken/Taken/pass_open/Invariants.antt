use Rattle.std.proofs.Common.{◌≡◌}
use Rattle.cond_memo.proofs.UntakenRows.{Passing, serials_above}
use Rattle.cond_memo.proofs.taken.Taken.pass_open.Given as goal

abbrev pub invariant-matches : goal.invariant-matches
invariant-matches g l = record {
  frame : l.self ≡ record l.fn.self { waiting = l.self.waiting };
  passing : Passing l.buffer l.fn.self l.node.0 l.fn.first l.at l.self.waiting;
}

abbrev pub decreases-matches : goal.decreases-matches
decreases-matches g l = serials_above l.buffer.nodes l.self.waiting
