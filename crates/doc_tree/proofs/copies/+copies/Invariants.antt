use Rattle.std.proofs.Common.{◌+◌, ◌-◌, ◌*◌, length}
use Rattle.doc_tree.proofs.Copying.{Writes}
use Rattle.doc_tree.proofs.copies.+copies.Given as goal

abbrev pub decreases-put_below : goal.decreases-put_below
decreases-put_below l = 2 * (length l.rows.now - l.node) + 1

abbrev pub decreases-put_row : goal.decreases-put_row
decreases-put_row l = 2 * (length l.rows.now - l.index)

abbrev pub invariant-put_below-loop-next : goal.invariant-put_below-loop-next
invariant-put_below-loop-next l = Writes l.rows l.node l.next l.fn.out.items l.out.items

abbrev pub decreases-put_below-loop-next : goal.decreases-put_below-loop-next
decreases-put_below-loop-next l = length l.rows - l.next
