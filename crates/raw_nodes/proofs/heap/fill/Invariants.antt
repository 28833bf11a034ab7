use Rattle.std.proofs.Common.{◌≡◌, None}
use Rattle.raw_nodes.proofs.Filling.{filling}
use Rattle.raw_nodes.proofs.heap.fill.Given as goal

abbrev pub invariant-loop-index : goal.invariant-loop-index
invariant-loop-index g l = (l.cells.at ≡ l.fn.cells.at) × (l.cells.slots ≡ filling g.row.T.Denot l.index l.first l.links) × (l.blank ≡ None)
