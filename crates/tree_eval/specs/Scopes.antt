-- Bindings of variables as the scope that they make.
use Rattle.std.specs.Prelude.{ℕ, cond, List, [], ◌∷◌, bytes_eq, Option, Some, None}
use Rattle.gcx_model.specs.Tree.{Node, Root, Tree}
use Rattle.gcx_model.specs.Answer.{Scope}
use Rattle.tree_eval.specs.declared.scope.Binding.{Binding}
use Rattle.doc_tree.specs.Rows.{node_at}

-- what the last binding of the name binds it to
abbrev pub bound_in : Option ℕ → List ℕ → List Binding → Option ℕ
bound_in o y [] = o
bound_in o y (b ∷ bs) = bound_in (cond (bytes_eq b.name.now y) (Some b.node) o) y bs

abbrev pub bound_node : List Node → Option ℕ → Node
bound_node ns None = Root
bound_node ns (Some i) = node_at ns i

abbrev pub scope_of : Tree → List Binding → Scope
scope_of P bs = λ y. bound_node P.nodes (bound_in None y bs)
