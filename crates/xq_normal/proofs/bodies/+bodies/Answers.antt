use Rattle.std.specs.Prelude.{option_map}
use Rattle.std.proofs.Common.{◌≡◌, ◌+◌, map, length, refl, ap, arith, sym, ◌∙◌}
use Rattle.std.proofs.lemmas.Result.{on_ok_weaker}
use Rattle.gcx_model.specs.ItemView.{body_of, body_tree, item_tree}
use Rattle.gcx_model.specs.Query.{Empty, cond_tree, expr_tree, expr_trees, exprs_of}
use Rattle.gcx_model.specs.Normal.{all_loops, join, loops, one, start_var}
use Rattle.gcx_model.specs.Written.{end_tag, start_tag}
use Rattle.gcx_model.proofs.Folds.{fold_Elem}
use Rattle.xq_normal.proofs.Folds.{fold_Empty}
use Rattle.xq_normal.specs.Raw.{raw_expr, raw_exprs, raw_turns}
use Rattle.xq_normal.specs.Scopes.{names_of}
use Rattle.xq_normal.proofs.Behind.{elem_put, join-nil}
use Rattle.xq_normal.proofs.Building.{names_of-push, turns_put}
use Rattle.xq_normal.proofs.Weights.{weights, expr_weighs, loops_fit, loops_more, part_put}
use Rattle.xq_normal.proofs.bodies.+bodies.Goals as goal

pub put_expr-returns-in-Empty-clause-body : goal.put_expr-returns-in-Empty-clause-body
put_expr-returns-in-Empty-clause-body t c =
    let tree : expr_tree c.args.expr.now ≡ Empty = ap expr_tree c.in-Empty.is ∙ fold_Empty in
    sym (join-nil (body_tree c.args.out.now)) ∙ ap (λ e. join (body_tree c.args.out.now) (raw_expr e (names_of c.args.scope.now.items) c.args.next.now)) (sym tree)

pub put_expr-returns-in_ok-end_tag-in-Elem-clause-next : goal.put_expr-returns-in_ok-end_tag-in-Elem-clause-next
put_expr-returns-in_ok-end_tag-in-Elem-clause-next t c =
    on_ok_weaker c.put_item-in-Elem.result
    (λ put. c.in_ok-put_exprs-in-Elem.ensures.next ∙ ap (λ e. c.args.next.now + loops e) (sym (ap expr_tree c.in-Elem.is ∙ fold_Elem c.in-Elem.name c.in-Elem.body)))
    c.put_item-in-Elem.ensures

pub put_expr-returns-in_ok-end_tag-in-Elem-clause-body : goal.put_expr-returns-in_ok-end_tag-in-Elem-clause-body
put_expr-returns-in_ok-end_tag-in-Elem-clause-body t c =
    on_ok_weaker c.put_item-in-Elem.result
    (λ (put : body_tree c.put_item-in-Elem.new.out ≡ join (body_tree c.put_exprs-in-Elem.new.out) (one (item_tree c.in_ok-end_tag-in-Elem.field-0))).
    elem_put (start_tag c.in-Elem.name) (end_tag c.in-Elem.name) (body_tree c.args.out.now) (body_tree c.put_item.new.out) (body_tree c.put_exprs-in-Elem.new.out) (body_tree c.put_item-in-Elem.new.out)
    (raw_exprs (exprs_of (expr_trees c.in-Elem.body)) (names_of c.args.scope.now.items) c.args.next.now)
    (c.in_ok-put_item-in-Elem.ensures ∙ ap (λ i. join (body_tree c.args.out.now) (one i)) c.in_ok-start_tag-in-Elem.ensures)
    c.in_ok-put_exprs-in-Elem.ensures.body
    (put ∙ ap (λ i. join (body_tree c.put_exprs-in-Elem.new.out) (one i)) c.in_ok-end_tag-in-Elem.ensures)
    ∙ ap (λ e. join (body_tree c.args.out.now) (raw_expr e (names_of c.args.scope.now.items) c.args.next.now)) (sym (ap expr_tree c.in-Elem.is ∙ fold_Elem c.in-Elem.name c.in-Elem.body)))
    c.put_item-in-Elem.ensures

pub put_exprs-put_expr-requires : goal.put_exprs-put_expr-requires
put_exprs-put_expr-requires t c =
    let w = expr_weighs c.deref-expr-items.result.now c.loop-expr.expr-index c.expr-item.result c.loop-expr-test.true c.expr-item.is in
    let e = ap (λ l. weights (exprs_of (map expr_tree l))) c.deref-expr-items.ensures.value in
    let f = loops_fit c.deref-expr-items.result.now c.loop-expr.expr-index c.expr-item.result c.loop-expr-test.true c.expr-item.is in
    let g = ap (λ l. all_loops (exprs_of (map expr_tree l))) c.deref-expr-items.ensures.value in
    let n = c.loop-expr.invariant.next in
    let r = c.requires in
    let d = c.decreases in
    (omega arith, omega arith)

pub put_exprs-loop-expr-init : goal.put_exprs-loop-expr-init
put_exprs-loop-expr-init t c = record {
  scope = refl;
  next = omega arith;
  body = sym (join-nil (body_tree c.args.out.now));
}

pub put_exprs-loop-expr-preserved : goal.put_exprs-loop-expr-preserved
put_exprs-loop-expr-preserved t c = record {
  scope = c.in_ok-put_expr.ensures.scope ∙ c.loop-expr.invariant.scope;
  next =
      let m = loops_more c.deref-expr-items.result.now c.loop-expr.expr-index c.expr-item.result c.loop-expr-test.true c.expr-item.is in
      let n = c.loop-expr.invariant.next in
      let p = c.in_ok-put_expr.ensures.next in
      omega arith;
  body =
      part_put c.deref-expr-items.result.now c.loop-expr.expr-index c.expr-item.result (body_tree c.args.out.now) (body_tree c.loop-expr.out) (body_tree c.put_expr.new.out)
      (names_of c.args.scope.now.items) (names_of c.loop-expr.scope.items) c.args.next.now c.loop-expr.next c.loop-expr-test.true c.expr-item.is
      (ap names_of c.loop-expr.invariant.scope) c.loop-expr.invariant.next c.loop-expr.invariant.body c.in_ok-put_expr.ensures.body;
}

pub put_turns-returns-clause-body : goal.put_turns-returns-clause-body
put_turns-returns-clause-body t c =
    on_ok_weaker c.put_body.result
    (λ (put : body_tree c.put_body.new.out ≡ join (body_tree c.args.out.now) (body_tree c.in_ok-loops.loops)).
    turns_put c.in-Some.clause.now c.in-Some.rest.now c.args.clauses.now (option_map cond_tree c.args.filter.now) (expr_tree c.args.body.now) (names_of c.args.scope.now.items) (names_of c.push.new.self.items)
    c.args.next.now c.innermost.result.0 (c.args.next.now + length c.items-steps.result.now) c.start_of-from.result.0 c.items-steps.result.now (body_tree c.args.out.now) (body_tree c.put_turns.new.out)
    (body_tree c.in_ok-loops.loops) (body_tree c.put_body.new.out) c.in-Some.ensures.cases.0
    (c.start_of-from.ensures ∙ ap (λ bs. start_var (names_of bs) c.in-Some.clause.now.path.start) c.deref.ensures.value)
    c.items-steps.ensures c.innermost.ensures (names_of-push c.args.scope.now.items c.push.new.self.items _ c.in_ok-push.ensures.items) refl
    (c.in_ok-put_turns.ensures.body
    ∙ ap (λ ts. join (body_of ts) (raw_turns c.in-Some.rest.now (option_map cond_tree c.args.filter.now) (expr_tree c.args.body.now) (names_of c.push.new.self.items) (c.args.next.now + length c.items-steps.result.now))) c.new-inner.ensures)
    c.in_ok-loops.ensures put)
    c.put_body.ensures
