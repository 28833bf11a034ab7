use Rattle.std.proofs.Common.{◌<◌, Bool}
use Rattle.std.specs.Prelude.{IfSome}
use Rattle.gcx_model.specs.Tree.{Node, Tree, serial_of, above}
use Rattle.gcx_model.specs.Members.{In}
use Rattle.buf_tree.specs.View.{InUse, serial_at}
use Rattle.cond_eval.specs.Reads.{NodeAt}
use Rattle.cond_memo.proofs.MarkRows.{Upward, places_left}
use Rattle.cond_memo.proofs.waiting.match_above.Given as goal

abbrev pub invariant-up : goal.invariant-up
invariant-up g l = record {
  used : IfSome l.at (λ p. InUse l.buffer.rows p.0);
  lower : IfSome l.at (λ p. serial_at p.0 l.buffer.rows < serial_at l.fn.place.0 l.buffer.rows);
  climb : (P : Tree) (keep : Node → Bool) (n o : Node) → NodeAt l.buffer.rows P keep l.node.0 n → NodeAt l.buffer.rows P keep l.fn.place.0 o → In n (above o) → serial_of n < serial_of o → Upward l.buffer.rows P keep l.steps n o l.at;
}

abbrev pub decreases-up : goal.decreases-up
decreases-up g l = places_left l.buffer.rows l.at
