-- The values of nodes that are known by their numbers.
use Rattle.std.proofs.Common.{◌≡◌, ℕ, List, [], ◌∷◌, map, refl, ◌∙◌, ap}
use Rattle.gcx_model.specs.Tree.{Node, Tree}
use Rattle.gcx_model.specs.Paths.{value}
use Rattle.gcx_model.specs.Values as model
use Rattle.doc_tree.specs.Rows.{node_at}
use Rattle.tree_eval.specs.Operands.{values_at}

each : (P : Tree) (is : List ℕ) → map (values_at P) is ≡ map (λ (n : Node). model.Bytes (value P n)) (map (node_at P.nodes) is)
each P [] = refl
each P (i ∷ is) = ap (λ vs. values_at P i ∷ vs) (each P is)

pub values_found : (P : Tree) (is : List ℕ) (ns : List Node) → map (node_at P.nodes) is ≡ ns → map (values_at P) is ≡ map (λ (n : Node). model.Bytes (value P n)) ns
values_found P is ns e = each P is ∙ ap (map (λ (n : Node). model.Bytes (value P n))) e
