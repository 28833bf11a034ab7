-- A number by which expressions shrink.
use Rattle.std.proofs.Common.{ℕ, suc, ◌+◌, length}
use Rattle.gcx_model.specs.Query.{ExprTree, ExprTrees, Empty, Seq, Elem, QueryPath, QueryFor, QueryIf, no_expr, more_exprs}

abbrev mutual
  pub weight : ExprTree → ℕ
  weight Empty = 0
  weight (Seq es) = suc (weights es)
  weight (Elem name es) = suc (weights es)
  weight (QueryPath path) = 0
  weight (QueryFor clauses filter body) = suc (suc (length clauses + weight body))
  weight (QueryIf c this other) = suc (weight this + weight other)

  pub weights : ExprTrees → ℕ
  weights no_expr = 0
  weights (more_exprs e es) = suc (weight e + weights es)
