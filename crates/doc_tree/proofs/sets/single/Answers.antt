use Rattle.std.proofs.Common.{◌≤◌, ◌++◌, ◌∷◌, [], length, sym, ◌∙◌, ap, arith}
use Rattle.gcx_model.specs.Tree.{serial_of}
use Rattle.gcx_model.specs.Paths.{hits}
use Rattle.doc_tree.specs.Rows.{node_at, nodes_of}
use Rattle.doc_tree.specs.Sets.{members}
use Rattle.doc_tree.proofs.Copying.{no_node_copy}
use Rattle.doc_tree.proofs.Numbers.{alone}
use Rattle.doc_tree.proofs.sets.single.Goals as goal
use Rattle.doc_tree.proofs.sets.single.Goals.{then-node-rows, else-node-rows}

pub returns : goal.returns
returns c =
    let le : c.if-node-rows.node ≤ length c.args.rows.now = elim c.if-node-rows.branch [ then-node-rows w ↦ (let g = w.node-is in let h = w.if-node-rows.true in omega arith) | else-node-rows w ↦ (let g = w.node-is in omega arith) ] in
    c.in_ok-push.ensures.items ∙ (ap (λ l. l ++ c.if-node-rows.node ∷ []) c.new-set.ensures.items ∙ (alone c.args.rows.now c.if-node-rows.node c.requires le
    ∙ ap (λ m. members (hits (serial_of m) []) c.args.rows.now)
    (elim c.if-node-rows.branch [ then-node-rows w ↦ ap (node_at (nodes_of c.args.rows.now)) w.node-is | else-node-rows w ↦ ap (node_at (nodes_of c.args.rows.now)) w.node-is ∙ sym (no_node_copy c.args.rows.now c.args.node w.if-node-rows.false) ])))
