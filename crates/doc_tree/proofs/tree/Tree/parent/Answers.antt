use Rattle.std.proofs.Common.{sym, ◌∙◌, ap, subst}
use Rattle.gcx_model.specs.Members.{In}
use Rattle.gcx_model.specs.Tree.{Tree, Under}
use Rattle.doc_tree.specs.Rows.{parent_at}
use Rattle.doc_tree.proofs.Places.{parent_told}
use Rattle.doc_tree.proofs.tree.Tree.parent.Goals as goal

pub returns : goal.returns
returns c = λ p k i.
    c.parent_number.ensures ∙ (ap (λ rows. parent_at rows c.args.node) c.deref.ensures.value
    ∙ parent_told c.self.inside.rows.items c.self.invariant.nested c.args.node p k (subst (λ (P : Tree). In (Under p c.args.node k) P.nodes) (sym c.self.view_is) i))
