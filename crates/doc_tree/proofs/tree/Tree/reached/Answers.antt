use Rattle.std.proofs.Common.{◌≡◌, List, ◌∷◌, [], ◌∙◌, ap, subst, map}
use Rattle.gcx_model.specs.Tree.{Tree, serial_of}
use Rattle.gcx_model.specs.Paths.{hits, matches}
use Rattle.doc_tree.specs.declared.row.Row.{Row}
use Rattle.doc_tree.specs.Rows.{node_at, nodes_of}
use Rattle.doc_tree.specs.Sets.{members}
use Rattle.doc_tree.proofs.tree.Tree.reached.Goals as goal

pub returns : goal.returns
returns c =
    subst (λ (P : Tree). c.in_ok-found.found.items ≡ map serial_of (matches P (serial_of (node_at P.nodes c.args.node)) (c.args.step.now ∷ []))) c.self.view_is
    (c.in_ok-found.ensures ∙ ap (λ (r : List Row). members (hits (serial_of (node_at (nodes_of r) c.args.node)) (c.args.step.now ∷ [])) r) c.deref.ensures.value)
