use Rattle.std.proofs.Common.{◌+◌, ◌-◌, ◌*◌, length, take}
use Rattle.gcx_model.specs.Answer.{children}
use Rattle.doc_tree.specs.Rows.{node_at}
use Rattle.time_laws.specs.Times.{rounds}
use Rattle.trace_check.specs.Acting.{Adds, whole_copy}
use Rattle.trace_check.specs.Timing.{clock_in}
use Rattle.trace_check.proofs.acts.Acts.+copies.Given as goal

abbrev pub decreases-copy_below : goal.decreases-copy_below
decreases-copy_below l = 2 * (length l.timed.now.tree.nodes - l.node)

abbrev pub decreases-copy : goal.decreases-copy
decreases-copy l = 2 * (length l.timed.now.tree.nodes - l.node) + 1

abbrev pub invariant-copy_below-loop-child : goal.invariant-copy_below-loop-child
invariant-copy_below-loop-child l =
    Adds l.fn.self.acts.items l.self.acts.items
    (rounds (clock_in l.timed) (whole_copy (clock_in l.timed) l.timed.tree) (take l.child-index (children l.timed.tree (node_at l.timed.tree.nodes l.node))) 0 l.now)
    l.done
