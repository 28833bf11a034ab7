use Rattle.std.proofs.Common.{◌≡◌, ◌≤◌, length, sym, ◌∙◌, ap, subst, arith}
use Rattle.gcx_model.specs.Paths.{value}
use Rattle.doc_tree.specs.Rows.{node_at, nodes_of, IsBehind}
use Rattle.doc_tree.specs.Copies.{whole}
use Rattle.doc_tree.proofs.Values.{value_rows}
use Rattle.doc_tree.proofs.Copying.{no_node_copy}
use Rattle.doc_tree.proofs.texts.value_of.Goals as goal
use Rattle.doc_tree.proofs.texts.value_of.Goals.{then-node-rows, else-node-rows}

pub returns : goal.returns
returns c =
    let le : c.if-node-rows.node ≤ length c.args.rows.now = elim c.if-node-rows.branch [ then-node-rows w ↦ (let g = w.node-is in let h = w.if-node-rows.true in omega arith) | else-node-rows w ↦ (let g = w.node-is in omega arith) ] in
    let same : node_at (nodes_of c.args.rows.now) c.if-node-rows.node ≡ node_at (nodes_of c.args.rows.now) c.args.node = elim c.if-node-rows.branch [ then-node-rows w ↦ ap (node_at (nodes_of c.args.rows.now)) w.node-is | else-node-rows w ↦ ap (node_at (nodes_of c.args.rows.now)) w.node-is ∙ sym (no_node_copy c.args.rows.now c.args.node w.if-node-rows.false) ] in
    c.in_ok-texts.ensures ∙ (sym (value_rows c.args.rows.now c.if-node-rows.node c.end_of-end.result c.saturating_sub-start.result c.requires.nested le (subst (IsBehind c.args.rows.now c.if-node-rows.node) (sym c.end_of-end.ensures) (c.requires.nested.ends c.if-node-rows.node le)) c.saturating_sub-start.ensures) ∙ ap (value (whole c.args.rows.now)) same)
