-- The meaning of a query over a whole document (XQuery 1.0, sections 3.2, 3.5.2, 3.6, 3.7.1, 3.8 and 3.10, as far as the fragment has them).
use Rattle.std.specs.Prelude.{ℕ, zero, suc, Bool, true, false, not, cond, ◌&&◌, ◌||◌, List, [], ◌∷◌, ◌++◌, map, length, flat_map, bytes_eq, Option, Some, None}
use Rattle.gcx_base.specs.declared.kind.Kind.{Kind}
use Rattle.gcx_base.specs.declared.kind.Kind.TheVariants.{Document, Element, Text}
use Rattle.gcx_base.specs.declared.steps.Axis.TheVariants.{Child}
use Rattle.gcx_base.specs.declared.steps.Test.TheVariants.{AnyNode}
use Rattle.gcx_base.specs.declared.steps.Step.{Step}
use Rattle.gcx_model.specs.declared.query.PathExpr.{PathExpr}
use Rattle.gcx_model.specs.declared.query.Clause.{Clause}
use Rattle.gcx_model.specs.declared.query.QOperand.{QOperand}
use Rattle.gcx_model.specs.declared.query.QOperand.TheVariants as operand
use Rattle.gcx_model.specs.Tree.{Node, Root, serial_of, kind_of, Tree}
use Rattle.gcx_model.specs.Paths.{any, matches, value}
use Rattle.gcx_model.specs.Values.{ComparedValue, Bytes, Units, compare}
use Rattle.gcx_model.specs.Written.{start_tag, end_tag, escaped}
use Rattle.gcx_model.specs.Query.{QueryCondTree, QueryCondTrees, QueryAlways, QueryExists, QueryCompare, QueryNot, QueryAll, QueryAny, no_query_cond, more_query_conds, ExprTree, ExprTrees, Empty, Seq, Elem, QueryPath, QueryFor, QueryIf, no_expr, more_exprs, exprs_of}
use Rattle.gcx_model.specs.Document.{Nodes, tree_of}

abbrev pub child_step : Step
child_step = record { axis = Child; test = AnyNode }

abbrev pub children : Tree → Node → List Node
children P n = matches P (serial_of n) (child_step ∷ [])

-- the bytes of a node, given those of its children
abbrev pub copied_with : Kind → List ℕ → List ℕ
copied_with Document inner = inner
copied_with (Element name) inner = start_tag name ++ (inner ++ end_tag name)
copied_with (Text bytes) inner = escaped bytes

-- the copy of a node, no more than `most` levels deep
abbrev pub copied : (most : ℕ) → Tree → Node → List ℕ
copied zero P n = []
copied (suc most) P n = copied_with (kind_of n) (flat_map (copied most P) (children P n))

-- the copy of a node: no tree is deeper than it has nodes
abbrev pub copy_of : Tree → Node → List ℕ
copy_of P n = copied (length P.nodes) P n

-- the node to which each name of a variable is bound
abbrev pub Scope : Type 0
Scope = List ℕ → Node

abbrev pub bind : Scope → List ℕ → Node → Scope
bind scope x n = λ y. cond (bytes_eq x y) n (scope y)

abbrev pub start_of : Scope → Option (List ℕ) → Node
start_of scope None = Root
start_of scope (Some x) = scope x

-- the nodes that a path stands for
abbrev pub found : PathExpr → Scope → Tree → List Node
found path scope P = matches P (serial_of (start_of scope path.start)) path.steps

abbrev pub values : QOperand → Scope → Tree → List ComparedValue
values (operand.Path path) scope P = map (λ n. Bytes (value P n)) (found path scope P)
values (operand.Str bytes) scope P = Bytes bytes ∷ []
values (operand.Num units) scope P = Units units ∷ []

abbrev pub some_pair : (ComparedValue → ComparedValue → Bool) → List ComparedValue → List ComparedValue → Bool
some_pair r vs ws = any (λ v. any (r v) ws) vs

abbrev pub is_any : {X : Type 0} → List X → Bool
is_any [] = false
is_any (x ∷ xs) = true

abbrev mutual
  pub holds : QueryCondTree → Scope → Tree → Bool
  holds QueryAlways scope P = true
  holds (QueryExists path) scope P = is_any (found path scope P)
  holds (QueryCompare left rel right) scope P = some_pair (compare rel) (values left scope P) (values right scope P)
  holds (QueryNot c) scope P = not (holds c scope P)
  holds (QueryAll cs) scope P = holds_all cs scope P
  holds (QueryAny cs) scope P = holds_any cs scope P

  pub holds_all : QueryCondTrees → Scope → Tree → Bool
  holds_all no_query_cond scope P = true
  holds_all (more_query_conds c cs) scope P = holds c scope P && holds_all cs scope P

  pub holds_any : QueryCondTrees → Scope → Tree → Bool
  holds_any no_query_cond scope P = false
  holds_any (more_query_conds c cs) scope P = holds c scope P || holds_any cs scope P

-- the scopes of the turns of a loop, in order
abbrev pub turns : List Clause → Scope → Tree → List Scope
turns [] scope P = scope ∷ []
turns (c ∷ cs) scope P = flat_map (λ n. turns cs (bind scope c.var n) P) (found c.path scope P)

abbrev pub filtered : Option QueryCondTree → Scope → Tree → Bool
filtered None scope P = true
filtered (Some c) scope P = holds c scope P

abbrev mutual
  pub answer_expr : ExprTree → Scope → Tree → List ℕ
  answer_expr Empty scope P = []
  answer_expr (Seq es) scope P = answer_exprs es scope P
  answer_expr (Elem name es) scope P = start_tag name ++ (answer_exprs es scope P ++ end_tag name)
  answer_expr (QueryPath path) scope P = flat_map (copy_of P) (found path scope P)
  answer_expr (QueryFor clauses filter body) scope P = flat_map (λ s. cond (filtered filter s P) (answer_expr body s P) []) (turns clauses scope P)
  answer_expr (QueryIf c this other) scope P = cond (holds c scope P) (answer_expr this scope P) (answer_expr other scope P)

  pub answer_exprs : ExprTrees → Scope → Tree → List ℕ
  answer_exprs no_expr scope P = []
  answer_exprs (more_exprs e es) scope P = answer_expr e scope P ++ answer_exprs es scope P

-- no variable is bound
abbrev pub no_scope : Scope
no_scope = λ x. Root

-- Answer: what the query writes over the whole document d
abbrev pub answer : List ExprTree → Nodes → List ℕ
answer q d = answer_exprs (exprs_of q) no_scope (tree_of d)
