use Rattle.std.proofs.Common.{◌≡◌, List, length}
use Rattle.std.specs.List.{AllByRecursion}
use Rattle.raw_nodes.specs.Nodes.{IsToldByLinks}
use Rattle.raw_nodes.specs.declared.node.Node.{Node}
use Rattle.raw_nodes.proofs.Emptying.{emptying}
use Rattle.raw_nodes.proofs.heap.empty.Given as goal

abbrev pub invariant-loop-index : goal.invariant-loop-index
invariant-loop-index g l = (l.cells.at ≡ l.fn.cells.at) × ((xs : List (Node g.row.T.Denot)) × (l.cells.slots ≡ emptying l.index xs) × (length xs ≡ l.count) × AllByRecursion IsToldByLinks xs)
