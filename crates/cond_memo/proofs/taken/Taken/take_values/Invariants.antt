use Rattle.std.proofs.Common.{◌≡◌}
use Rattle.std.specs.Prelude.{IfSome}
use Rattle.cond_memo.specs.Taking.{MayTakeAt, takes_left}
use Rattle.cond_memo.proofs.PairSides.{SideGoes}
use Rattle.cond_memo.proofs.taken.Taken.take_values.Given as goal

abbrev pub invariant-matches : goal.invariant-matches
invariant-matches g l = record {
  frame : l.self ≡ record l.fn.self { below = l.self.below; waiting = l.self.waiting };
  may : IfSome l.next (λ q. MayTakeAt l.buffer l.self l.end.node.0 q.0);
  goes : SideGoes l.buffer l.fn.self l.self l.end.node.0 l.end.hand l.fn.compared l.compared l.next;
}

abbrev pub decreases-matches : goal.decreases-matches
decreases-matches g l = takes_left l.buffer l.self.below l.next
