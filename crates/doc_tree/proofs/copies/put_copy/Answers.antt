use Rattle.std.proofs.Common.{◌≡◌, ◌++◌, sym, ◌∙◌, ap, arith}
use Rattle.gcx_model.specs.Tree.{kind_of}
use Rattle.gcx_model.specs.Answer.{copy_of}
use Rattle.gcx_base.specs.Kinds.{is_text}
use Rattle.doc_tree.specs.Rows.{node_at, nodes_of}
use Rattle.doc_tree.specs.Copies.{whole}
use Rattle.doc_tree.proofs.Nodes.{are_nodes}
use Rattle.doc_tree.proofs.Copying.{root_copy, no_node_copy}
use Rattle.doc_tree.proofs.copies.put_copy.Goals as goal
use Rattle.doc_tree.proofs.copies.put_copy.Goals.{else-node-gt0-via-then-node-gt0+else-node-rows, else-node-gt0-via-else-node-gt0}

pub put_below-requires-clause-holder : goal.put_below-requires-clause-holder
put_below-requires-clause-holder c = ap (λ m. is_text (kind_of m)) (are_nodes c.args.rows.now).first

pub returns-in_ok-put_below : goal.returns-in_ok-put_below
returns-in_ok-put_below c =
    let same : node_at (nodes_of c.args.rows.now) c.args.node ≡ node_at (nodes_of c.args.rows.now) 0 = elim c.else-node-gt0.branch [
      | else-node-gt0-via-then-node-gt0+else-node-rows w ↦ no_node_copy c.args.rows.now c.args.node w.if-node-rows.false
      | else-node-gt0-via-else-node-gt0 w ↦ (let z : c.args.node ≡ 0 = (let f = w.if-node-gt0.false in omega arith) in ap (node_at (nodes_of c.args.rows.now)) z)
    ] in
    c.in_ok-put_below.ensures.written ∙ ap (λ x. c.args.out.now.items ++ x) (sym (ap (copy_of (whole c.args.rows.now)) same ∙ root_copy c.args.rows.now))
