use Rattle.std.proofs.Common.{◌≡◌, ◌≤◌, ◌<◌, ◌+◌, ◌↔◌, true, sym, ◌∙◌, ap, subst}
use Rattle.gcx_model.specs.Members.{In}
use Rattle.gcx_model.specs.Tree.{Tree, serial_of, within}
use Rattle.doc_tree.specs.Rows.{end_at}
use Rattle.doc_tree.proofs.Places.{in_range}
use Rattle.doc_tree.proofs.tree.Tree.end.Goals as goal

pub returns : goal.returns
returns c = λ m i.
    subst (λ e. (within c.args.node m ≡ true) ↔ ((c.args.node ≤ serial_of m) × (serial_of m < e + 1)))
    (sym (c.end_of.ensures ∙ ap (λ rows. end_at rows c.args.node) c.deref.ensures.value))
    (in_range c.self.inside.rows.items c.self.invariant.nested c.args.node m (subst (λ (P : Tree). In m P.nodes) (sym c.self.view_is) i))
