use Rattle.buf_tree.specs.Shape.{cells, at_place}
use Rattle.buf_tree.specs.Walk.{serial_in}
use Rattle.buf_tree.proofs.Going.{Ups}
use Rattle.buf_tree.proofs.search.behind.Given as goal

abbrev pub invariant-up : goal.invariant-up
invariant-up g l = Ups (g.N.NodeStore.rows l.nodes) l.fn.top.0 l.fn.place.0 l.at.0

abbrev pub decreases-up : goal.decreases-up
decreases-up g l = serial_in (cells (g.N.NodeStore.rows l.nodes)) (at_place l.at.0 (cells (g.N.NodeStore.rows l.nodes)))
