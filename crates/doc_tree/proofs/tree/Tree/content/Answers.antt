use Rattle.std.proofs.Common.{◌∙◌, ap}
use Rattle.gcx_model.specs.Tree.{Tree, kind_of}
use Rattle.doc_tree.specs.Rows.{node_at, kind_at}
use Rattle.doc_tree.proofs.Places.{kind_told_at}
use Rattle.doc_tree.proofs.tree.Tree.content.Goals as goal

pub returns : goal.returns
returns c =
    c.content_of.ensures ∙ (ap (λ rows. kind_at rows c.args.node) c.deref.ensures.value
    ∙ (kind_told_at c.self.inside.rows.items c.self.invariant.nested c.args.node ∙ ap (λ (P : Tree). kind_of (node_at P.nodes c.args.node)) c.self.view_is))
