use Rattle.std.proofs.Common.{◌≡◌, take}
use Rattle.gcx_model.specs.Tree.{serial_of}
use Rattle.gcx_model.specs.Paths.{hits}
use Rattle.doc_tree.specs.Rows.{node_at, nodes_of}
use Rattle.doc_tree.specs.Sets.{members}
use Rattle.doc_tree.proofs.sets.hit.Given as goal

abbrev pub invariant-loop-step : goal.invariant-loop-step
invariant-loop-step l = l.set.items ≡ members (hits (serial_of (node_at (nodes_of l.rows) l.node)) (take l.step-index l.steps)) l.rows
