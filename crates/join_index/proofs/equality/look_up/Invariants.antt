use Rattle.std.specs.Prelude.{IfSome}
use Rattle.cond_memo.specs.Taking.{MayTakeAt, TakesMore, takes_left}
use Rattle.join_index.proofs.Looking.{Looks}
use Rattle.join_index.proofs.equality.look_up.Given as goal

abbrev pub invariant-matches : goal.invariant-matches
invariant-matches g l = record {
  rest : TakesMore l.fn.seen l.seen;
  may : IfSome l.next (λ q. MayTakeAt l.buffer l.seen l.node.0 q.0);
  looks : Looks l.buffer l.node.0 l.values l.fn.seen l.seen l.next;
}

abbrev pub decreases-matches : goal.decreases-matches
decreases-matches g l = takes_left l.buffer l.seen.below l.next
