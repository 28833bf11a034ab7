use Rattle.std.proofs.Common.{◌-◌}
use Rattle.doc_tree.proofs.Children.{Finds}
use Rattle.doc_tree.proofs.sets.put_children.Given as goal

abbrev pub invariant-loop-next : goal.invariant-loop-next
invariant-loop-next l = Finds l.rows l.test l.node l.next l.fn.found.items l.found.items

abbrev pub decreases-loop-next : goal.decreases-loop-next
decreases-loop-next l = l.end - l.next
