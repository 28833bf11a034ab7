use Rattle.std.proofs.Common.{◌≡◌, List, sym, ◌∙◌, ap, subst, map}
use Rattle.gcx_model.specs.Tree.{Tree, serial_of}
use Rattle.gcx_model.specs.Paths.{hits, matches}
use Rattle.doc_tree.specs.declared.row.Row.{Row}
use Rattle.doc_tree.specs.Rows.{node_at, nodes_of}
use Rattle.doc_tree.specs.Sets.{members}
use Rattle.doc_tree.proofs.Nodes.{are_nodes}
use Rattle.doc_tree.proofs.Numbers.{members_nodes}
use Rattle.doc_tree.proofs.tree.Tree.matches.Goals as goal

pub returns-clause-root : goal.returns-clause-root
returns-clause-root c = sym (ap (λ (P : Tree). node_at P.nodes 0) c.self.view_is) ∙ (are_nodes c.self.inside.rows.items).first

pub returns-clause-numbers : goal.returns-clause-numbers
returns-clause-numbers c =
    subst (λ (P : Tree). c.in_ok-found.found.items ≡ map serial_of (matches P (serial_of (node_at P.nodes c.args.node)) c.args.steps.now)) c.self.view_is
    (c.in_ok-found.ensures ∙ ap (λ (r : List Row). members (hits (serial_of (node_at (nodes_of r) c.args.node)) c.args.steps.now) r) c.deref.ensures.value)

pub returns-clause-found : goal.returns-clause-found
returns-clause-found c =
    let rows : List Row = c.self.inside.rows.items in
    subst (λ (P : Tree). map (node_at P.nodes) c.in_ok-found.found.items ≡ matches P (serial_of (node_at P.nodes c.args.node)) c.args.steps.now) c.self.view_is
    (ap (map (node_at (nodes_of rows))) (c.in_ok-found.ensures ∙ ap (λ (r : List Row). members (hits (serial_of (node_at (nodes_of r) c.args.node)) c.args.steps.now) r) c.deref.ensures.value)
    ∙ members_nodes rows (hits (serial_of (node_at (nodes_of rows) c.args.node)) c.args.steps.now) c.self.invariant.nested)
