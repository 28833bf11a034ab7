use Rattle.std.proofs.Common.{◌≡◌, Bool}
use Rattle.gcx_model.specs.Tree.{Node, Tree, serial_of}
use Rattle.gcx_model.specs.Paths.{matches}
use Rattle.cond_memo.specs.Marks.{Asks, Tried}
use Rattle.cond_memo.proofs.MarkSearch.{serials_left}
use Rattle.cond_memo.proofs.mark.Mark.look_back.Given as goal

abbrev pub invariant-up : goal.invariant-up
invariant-up g l = record {
  frame : l.self ≡ record l.fn.self { waiting = l.self.waiting };
  tried : (P : Tree) (keep : Node → Bool) (n : Node) → Asks l.buffer.rows l.buffer.nodes l.fn.self.steps l.fn.self.ask l.node.0 P keep n
      → Tried P l.fn.self.ask (matches P (serial_of n) l.fn.self.steps) l.fn.self.waiting l.fn.self.upto.0 → Tried P l.fn.self.ask (matches P (serial_of n) l.fn.self.steps) l.self.waiting l.fn.self.upto.0;
}

abbrev pub decreases-up : goal.decreases-up
decreases-up g l = serials_left l.self.waiting
