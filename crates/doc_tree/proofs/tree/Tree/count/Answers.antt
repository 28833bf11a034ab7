use Rattle.std.proofs.Common.{◌≡◌, length, rules, ap, arith}
use Rattle.gcx_model.specs.Tree.{Tree}
use Rattle.doc_tree.proofs.Nodes.{length-nodes_of}
use Rattle.doc_tree.proofs.tree.Tree.count.Goals as goal

pub returns : goal.returns
returns c =
    let e : c.self.inside.rows.len ≡ length c.self.inside.rows.items = search rules in
    omega (arith, length-nodes_of c.self.inside.rows.items, ap (λ (P : Tree). length P.nodes) c.self.view_is)
