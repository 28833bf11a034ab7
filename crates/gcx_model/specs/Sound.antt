-- Which queries are sound: their shape, their variables, and where descendant steps stand (XQuery 1.0, sections 3.1.2 and 3.8.1 for the scopes; the rest is this project's).
use Rattle.std.specs.Prelude.{ℕ, Bool, true, false, not, ◌&&◌, List, [], ◌∷◌, bytes_eq, Option, Some, None}
use Rattle.gcx_base.specs.declared.steps.Step.{Step}
use Rattle.gcx_model.specs.declared.query.PathExpr.{PathExpr}
use Rattle.gcx_model.specs.declared.query.Clause.{Clause}
use Rattle.gcx_model.specs.declared.query.QOperand.{QOperand}
use Rattle.gcx_model.specs.declared.query.QOperand.TheVariants as operand
use Rattle.gcx_model.specs.Paths.{any}
use Rattle.gcx_model.specs.Query.{QueryCondTree, QueryCondTrees, QueryAlways, QueryExists, QueryCompare, QueryNot, QueryAll, QueryAny, no_query_cond, more_query_conds, ExprTree, ExprTrees, Empty, Seq, Elem, QueryPath, QueryFor, QueryIf, no_expr, more_exprs, exprs_of}
use Rattle.gcx_model.specs.Variables.{is_child}

-- each step but the last is a child step
abbrev pub only_last : List Step → Bool
only_last [] = true
only_last (s ∷ []) = true
only_last (s ∷ (u ∷ rest)) = is_child s.axis && only_last (u ∷ rest)

abbrev pub has_step : List Step → Bool
has_step [] = false
has_step (s ∷ rest) = true

-- A path begins at a variable in scope, or at the document node and then has a step.
abbrev pub starts : (scope : List (List ℕ)) → Option (List ℕ) → List Step → Bool
starts scope None steps = has_step steps
starts scope (Some x) steps = any (bytes_eq x) scope

-- a path of a condition
abbrev pub is_path : (scope : List (List ℕ)) → PathExpr → Bool
is_path scope path = starts scope path.start path.steps

-- a path of a loop or as output
abbrev pub is_ordered_path : (scope : List (List ℕ)) → PathExpr → Bool
is_ordered_path scope path = is_path scope path && only_last path.steps

abbrev pub is_side : (scope : List (List ℕ)) → QOperand → Bool
is_side scope (operand.Path path) = is_path scope path
is_side scope (operand.Str bytes) = true
is_side scope (operand.Num units) = true

abbrev pub is_literal : QOperand → Bool
is_literal (operand.Path path) = false
is_literal (operand.Str bytes) = true
is_literal (operand.Num units) = true

abbrev pub two_conds : QueryCondTrees → Bool
two_conds no_query_cond = false
two_conds (more_query_conds c no_query_cond) = false
two_conds (more_query_conds c (more_query_conds d ds)) = true

abbrev mutual
  pub is_cond : (scope : List (List ℕ)) → QueryCondTree → Bool
  is_cond scope QueryAlways = true
  is_cond scope (QueryExists path) = is_path scope path
  is_cond scope (QueryCompare left rel right) = (is_side scope left && is_side scope right) && not (is_literal left && is_literal right)
  is_cond scope (QueryNot c) = is_cond scope c
  is_cond scope (QueryAll cs) = two_conds cs && are_conds scope cs
  is_cond scope (QueryAny cs) = two_conds cs && are_conds scope cs

  pub are_conds : (scope : List (List ℕ)) → QueryCondTrees → Bool
  are_conds scope no_query_cond = true
  are_conds scope (more_query_conds c cs) = is_cond scope c && are_conds scope cs

-- each clause's variable is in scope in the later ones
abbrev pub are_clauses : (scope : List (List ℕ)) → List Clause → Bool
are_clauses scope [] = true
are_clauses scope (c ∷ cs) = (is_ordered_path scope c.path && has_step c.path.steps) && are_clauses (c.var ∷ scope) cs

abbrev pub scope_of : (scope : List (List ℕ)) → List Clause → List (List ℕ)
scope_of scope [] = scope
scope_of scope (c ∷ cs) = scope_of (c.var ∷ scope) cs

abbrev pub has_clause : List Clause → Bool
has_clause [] = false
has_clause (c ∷ cs) = true

abbrev pub is_filter : (scope : List (List ℕ)) → Option QueryCondTree → Bool
is_filter scope None = true
is_filter scope (Some c) = is_cond scope c

abbrev pub two_exprs : ExprTrees → Bool
two_exprs no_expr = false
two_exprs (more_exprs e no_expr) = false
two_exprs (more_exprs e (more_exprs f fs)) = true

abbrev pub has_expr : ExprTrees → Bool
has_expr no_expr = false
has_expr (more_exprs e es) = true

abbrev mutual
  pub is_expr : (scope : List (List ℕ)) → ExprTree → Bool
  is_expr scope Empty = true
  is_expr scope (Seq es) = two_exprs es && are_exprs scope es
  is_expr scope (Elem name es) = are_exprs scope es
  is_expr scope (QueryPath path) = is_ordered_path scope path
  is_expr scope (QueryFor cs filter body) = (has_clause cs && are_clauses scope cs) && (is_filter (scope_of scope cs) filter && is_expr (scope_of scope cs) body)
  is_expr scope (QueryIf c this other) = is_cond scope c && (is_expr scope this && is_expr scope other)

  pub are_exprs : (scope : List (List ℕ)) → ExprTrees → Bool
  are_exprs scope no_expr = true
  are_exprs scope (more_exprs e es) = is_expr scope e && are_exprs scope es

-- Sound(q)
abbrev pub is_sound : List ExprTree → Bool
is_sound q = has_expr (exprs_of q) && are_exprs [] (exprs_of q)
