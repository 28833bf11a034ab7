use Rattle.std.proofs.Common.{rules, ◌≡◌, ◌++◌, map, length, vec_len, sym, ◌∙◌, ap, arith}
use Rattle.std.specs.Prelude.{flat_map, option_map}
use Rattle.std.proofs.lemmas.List.{take_all}
use Rattle.gcx_model.specs.Query.{expr_tree, expr_trees, exprs_of, cond_tree}
use Rattle.gcx_model.specs.Answer.{answer_expr, answer_exprs, bind, found}
use Rattle.gcx_model.proofs.Folds.{fold_Elem}
use Rattle.doc_tree.specs.Rows.{node_at}
use Rattle.tree_eval.specs.Scopes.{scope_of}
use Rattle.tree_eval.specs.Turns.{turns_bytes}
use Rattle.tree_eval.proofs.Weight.{weights}
use Rattle.tree_eval.proofs.Writing.{elem_written, expr_weighs, expr_written, turn_written, turns_more, popped, turn_scope}
use Rattle.tree_eval.proofs.answer.+answers.Goals as goal

pub put_expr-returns-in_ok-put_end-in-Elem-clause-written : goal.put_expr-returns-in_ok-put_end-in-Elem-clause-written
put_expr-returns-in_ok-put_end-in-Elem-clause-written t c =
    elem_written c.in-Elem.name (answer_exprs (exprs_of (expr_trees c.in-Elem.body)) (scope_of c.args.tree.now c.args.scope.now.items) c.args.tree.now) _ _ _ _
    c.in_ok-put_start-in-Elem.ensures.ok c.in_ok-put_exprs-in-Elem.ensures.written c.in_ok-put_end-in-Elem.ensures.ok
    ∙ ap (λ e. c.args.out.now.items ++ answer_expr e (scope_of c.args.tree.now c.args.scope.now.items) c.args.tree.now) (sym (ap expr_tree c.in-Elem.is ∙ fold_Elem c.in-Elem.name c.in-Elem.body))

pub put_exprs-loop-expr-preserved : goal.put_exprs-loop-expr-preserved
put_exprs-loop-expr-preserved t c = record {
  scope = c.in_ok-put_expr.ensures.scope ∙ c.loop-expr.invariant.scope;
  written = expr_written c.deref-expr-items.result.now c.loop-expr.expr-index c.expr-item.result _ _ _ _ _ _ c.loop-expr-test.true c.expr-item.is (ap (scope_of c.args.tree.now) c.loop-expr.invariant.scope) c.loop-expr.invariant.written c.in_ok-put_expr.ensures.written;
}

pub put_exprs-put_expr-requires : goal.put_exprs-put_expr-requires
put_exprs-put_expr-requires t c =
    let w = expr_weighs c.deref-expr-items.result.now c.loop-expr.expr-index c.expr-item.result c.loop-expr-test.true c.expr-item.is in
    let e = ap (λ l. weights (exprs_of (map expr_tree l))) c.deref-expr-items.ensures.value in
    let d = c.decreases in
    (omega arith, tt)

pub put_turns-loop-node-preserved : goal.put_turns-loop-node-preserved
put_turns-loop-node-preserved t c = record {
  scope =
      let n : vec_len c.put_turns.new.scope ≡ length c.put_turns.new.scope.items = search rules in
      popped _ _ _ _ _ c.pop.ensures.rest (c.in_ok-put_turns.ensures.scope ∙ c.in_ok-push.ensures.items) n ∙ c.loop-node.invariant.scope;
  written =
      turn_written _ c.args.tree.now.nodes c.deref-node-items.result.now c.loop-node.node-index _ _ _ _ c.loop-node-test.true c.loop-node.invariant.written c.in_ok-put_turns.ensures.written
      (ap (λ u. turns_bytes c.in-Some.rest.now (option_map cond_tree c.args.filter.now) (expr_tree c.args.body.now) u c.args.tree.now) (turn_scope c.args.tree.now c.loop-node.scope.items c.args.scope.now.items c.push.new.self.items _ c.in_ok-push.ensures.items c.loop-node.invariant.scope));
}

pub put_turns-returns-clause-written : goal.put_turns-returns-clause-written
put_turns-returns-clause-written t c =
    c.loop-node.invariant.written
    ∙ ap (λ l. c.args.out.now.items ++ l) (ap (λ is. flat_map (λ n. turns_bytes c.in-Some.rest.now (option_map cond_tree c.args.filter.now) (expr_tree c.args.body.now) (bind (scope_of c.args.tree.now c.args.scope.now.items) c.in-Some.clause.now.var n) c.args.tree.now) (map (node_at c.args.tree.now.nodes) is))
    (take_all c.loop-node.node-index c.deref-node-items.result.now c.loop-node-test.false ∙ c.deref-node-items.ensures.value)
    ∙ (ap (flat_map (λ n. turns_bytes c.in-Some.rest.now (option_map cond_tree c.args.filter.now) (expr_tree c.args.body.now) (bind (scope_of c.args.tree.now c.args.scope.now.items) c.in-Some.clause.now.var n) c.args.tree.now))
    (c.in_ok-nodes.ensures ∙ ap (λ bs. found c.in-Some.clause.now.path (scope_of c.args.tree.now bs) c.args.tree.now) c.deref-2.ensures.value)
    ∙ (sym (turns_more c.in-Some.clause.now c.in-Some.rest.now (option_map cond_tree c.args.filter.now) (expr_tree c.args.body.now) (scope_of c.args.tree.now c.args.scope.now.items) c.args.tree.now)
    ∙ ap (λ cs. turns_bytes cs (option_map cond_tree c.args.filter.now) (expr_tree c.args.body.now) (scope_of c.args.tree.now c.args.scope.now.items) c.args.tree.now) (sym c.in-Some.ensures.cases.0))))
