use Rattle.std.proofs.Common.{◌++◌, ◌∙◌, ap}
use Rattle.gcx_model.specs.Tree.{Tree}
use Rattle.gcx_model.specs.Answer.{copy_of}
use Rattle.doc_tree.specs.Rows.{node_at, nodes_of}
use Rattle.doc_tree.specs.Copies.{whole}
use Rattle.doc_tree.proofs.Copying.{same_copy}
use Rattle.doc_tree.proofs.tree.Tree.put_copy.Goals as goal

pub returns : goal.returns
returns c =
    c.in_ok-put_copy.ensures
    ∙ (ap (λ rows. c.args.out.now.items ++ copy_of (whole rows) (node_at (nodes_of rows) c.args.node)) c.deref.ensures.value
    ∙ (ap (λ x. c.args.out.now.items ++ x) (same_copy c.self.inside.rows.items c.self.inside.at (node_at (nodes_of c.self.inside.rows.items) c.args.node))
    ∙ ap (λ (P : Tree). c.args.out.now.items ++ copy_of P (node_at P.nodes c.args.node)) c.self.view_is))
