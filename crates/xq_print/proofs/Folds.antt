-- One layer of an expression as a plain tree.
use Rattle.std.proofs.Common.{◌≡◌, ℕ, List, rules}
use Rattle.gcx_model.specs.declared.query.Expr.{the_lemmas}
use Rattle.gcx_model.specs.declared.query.Expr.TheViews as expr
use Rattle.gcx_model.specs.declared.query.Exprs.{Exprs}
use Rattle.gcx_model.specs.Query.{Elem, exprs_of, expr_tree, expr_trees}

pub fold_Elem : (name : List ℕ) (body : Exprs) → expr_tree (expr.Elem name body) ≡ Elem name (exprs_of (expr_trees body))
fold_Elem name body = search (rules, the_lemmas)
