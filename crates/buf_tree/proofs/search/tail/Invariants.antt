use Rattle.buf_tree.specs.Shape.{cells, at_place}
use Rattle.buf_tree.specs.Walk.{rows_behind, serial_in}
use Rattle.buf_tree.proofs.Seeking.{Downs}
use Rattle.buf_tree.proofs.search.tail.Given as goal

abbrev pub invariant-down : goal.invariant-down
invariant-down g l = Downs (g.N.NodeStore.rows l.nodes) l.fn.top.0 l.at.0

abbrev pub decreases-down : goal.decreases-down
decreases-down g l = rows_behind (cells (g.N.NodeStore.rows l.nodes)) (serial_in (cells (g.N.NodeStore.rows l.nodes)) (at_place l.at.0 (cells (g.N.NodeStore.rows l.nodes))))
