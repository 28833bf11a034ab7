use Rattle.std.proofs.Common.{◌≡◌, ◌++◌, map, take}
use Rattle.std.specs.Prelude.{flat_map}
use Rattle.gcx_model.specs.Answer.{copy_of}
use Rattle.doc_tree.specs.Rows.{node_at}
use Rattle.tree_eval.proofs.answer.put_copies.Given as goal

abbrev pub invariant-loop-node : goal.invariant-loop-node
invariant-loop-node l = l.out.items ≡ l.fn.out.items ++ flat_map (copy_of l.tree) (map (node_at l.tree.nodes) (take l.node-index l.nodes))
