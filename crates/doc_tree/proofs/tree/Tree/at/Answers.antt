use Rattle.std.proofs.Common.{◌≡◌, ◌<◌, length, refl, subst, option_map}
use Rattle.std.specs.Prelude.{IfSome}
use Rattle.gcx_model.specs.Tree.{Tree}
use Rattle.doc_tree.specs.Rows.{node_at}
use Rattle.doc_tree.proofs.Places.{open_there}
use Rattle.doc_tree.proofs.tree.Tree.at.Goals as goal

pub returns-clause-node : goal.returns-clause-node
returns-clause-node c = subst (λ (P : Tree). P.at ≡ option_map (node_at P.nodes) c.self.inside.at) c.self.view_is refl

pub returns-clause-there : goal.returns-clause-there
returns-clause-there c =
    subst (λ (P : Tree). IfSome c.self.inside.at (λ p. p < length P.nodes)) c.self.view_is
    (open_there c.self.inside.rows.items c.self.inside.at c.self.invariant.innermost)
