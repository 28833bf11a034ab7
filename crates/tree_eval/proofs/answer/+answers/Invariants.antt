use Rattle.std.proofs.Common.{◌≡◌, ◌+◌, ◌++◌, suc, map, take, length}
use Rattle.std.specs.Prelude.{flat_map, option_map}
use Rattle.gcx_model.specs.Query.{expr_tree, expr_trees, exprs_of, cond_tree}
use Rattle.gcx_model.specs.Answer.{answer_exprs, bind}
use Rattle.doc_tree.specs.Rows.{node_at}
use Rattle.tree_eval.specs.Scopes.{scope_of}
use Rattle.tree_eval.specs.Turns.{turns_bytes}
use Rattle.tree_eval.proofs.Weight.{weight, weights}
use Rattle.tree_eval.proofs.answer.+answers.Given as goal

abbrev pub decreases-put_expr : goal.decreases-put_expr
decreases-put_expr l = weight (expr_tree l.expr.now)

abbrev pub decreases-put_exprs : goal.decreases-put_exprs
decreases-put_exprs l = weights (exprs_of (expr_trees l.exprs.now))

abbrev pub decreases-put_turns : goal.decreases-put_turns
decreases-put_turns l = suc (length l.clauses.now + weight (expr_tree l.body.now))

abbrev pub invariant-put_exprs-loop-expr : goal.invariant-put_exprs-loop-expr
invariant-put_exprs-loop-expr l = record {
  scope : l.scope.items ≡ l.fn.scope.items;
  written : l.out.items ≡ l.fn.out.items ++ answer_exprs (exprs_of (map expr_tree (take l.expr-index l.expr-items))) (scope_of l.tree l.fn.scope.items) l.tree;
}

abbrev pub invariant-put_turns-loop-node : goal.invariant-put_turns-loop-node
invariant-put_turns-loop-node l = record {
  scope : l.scope.items ≡ l.fn.scope.items;
  written : l.out.items ≡ l.fn.out.items ++ flat_map (λ n. turns_bytes l.rest (option_map cond_tree l.filter) (expr_tree l.body) (bind (scope_of l.tree l.fn.scope.items) l.clause.var n) l.tree) (map (node_at l.tree.nodes) (take l.node-index l.node-items));
}
