use Rattle.std.proofs.Common.{◌≡◌, ◌+◌, suc, map, take, length}
use Rattle.gcx_model.specs.ItemView.{body_tree}
use Rattle.gcx_model.specs.Query.{expr_tree, expr_trees, exprs_of}
use Rattle.gcx_model.specs.Normal.{join}
use Rattle.xq_normal.specs.Raw.{raw_exprs}
use Rattle.xq_normal.specs.Scopes.{names_of}
use Rattle.xq_normal.proofs.Weights.{weight, weights, loops_in}
use Rattle.xq_normal.proofs.bodies.+bodies.Given as goal

abbrev pub decreases-put_expr : goal.decreases-put_expr
decreases-put_expr l = weight (expr_tree l.expr.now)

abbrev pub decreases-put_exprs : goal.decreases-put_exprs
decreases-put_exprs l = weights (exprs_of (expr_trees l.exprs.now))

abbrev pub decreases-put_filtered : goal.decreases-put_filtered
decreases-put_filtered l = suc (weight (expr_tree l.body.now))

abbrev pub decreases-put_turns : goal.decreases-put_turns
decreases-put_turns l = suc (suc (length l.clauses.now + weight (expr_tree l.body.now)))

abbrev pub invariant-put_exprs-loop-expr : goal.invariant-put_exprs-loop-expr
invariant-put_exprs-loop-expr l = record {
  scope : l.scope.items ≡ l.fn.scope.items;
  next : l.next ≡ l.fn.next + loops_in (take l.expr-index l.expr-items);
  body : body_tree l.out ≡ join (body_tree l.fn.out) (raw_exprs (exprs_of (map expr_tree (take l.expr-index l.expr-items))) (names_of l.fn.scope.items) l.fn.next);
}
