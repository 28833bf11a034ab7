-- Bindings of a core's variables, as the environment that they make (this project's).
use Rattle.std.specs.Prelude.{ℕ, ◌<◌, cond, ◌==◌, List, [], ◌∷◌, length, map}
use Rattle.gcx_model.specs.Core.{BodyTree}
use Rattle.gcx_model.specs.Members.{In}
use Rattle.gcx_model.specs.Nodes.{Grown}
use Rattle.gcx_model.specs.Tree.{Tree}
use Rattle.gcx_model.specs.Truth.{Env}
use Rattle.doc_tree.specs.Rows.{node_at}
use Rattle.time_laws.specs.Times.{TimedCourse}
use Rattle.trace_check.specs.Acting.{body_rounds}
use Rattle.trace_check.specs.Timing.{clock_in}
use Rattle.trace_check.specs.declared.scope.Binding.{Binding}
use Rattle.trace_check.specs.declared.timed.Timed.{Timed}

-- what the last binding of the variable binds it to, and else this node
abbrev pub bound_in : (node : ℕ) → (var : ℕ) → List Binding → ℕ
bound_in node x [] = node
bound_in node x (b ∷ bs) = bound_in (cond (b.var.0 == x) b.node node) x bs

abbrev pub env_of : Tree → List Binding → Env
env_of C bs = λ x. node_at C.nodes (bound_in 0 x bs)

-- The tree's nodes have their numbers, there is one at least, and each binding is one of a node of it.
pub record IsBound (C : Tree) (bs : List Binding) : Type 0 where
  pub grown : Grown C
  pub some : 0 < length C.nodes
  pub there : (b : Binding) → In b bs → b.node < length C.nodes

-- the course of a body for each of these nodes, one after another, from the time on
abbrev pub rounds_from : Timed → List Binding → (var : ℕ) → BodyTree → (nodes : List ℕ) → (now : ℕ) → TimedCourse
rounds_from t scope x d nodes now = body_rounds (clock_in t) t.tree x d (env_of t.tree scope) (map (node_at t.tree.nodes) nodes) now
