use Rattle.std.proofs.Common.{◌≡◌, ◌++◌, string_bytes, map, arith, sym, ap, ◌∙◌}
use Rattle.std.specs.Prelude.{codes, option_map}
use Rattle.std.proofs.lemmas.Result.{on_ok_weaker}
use Rattle.gcx_model.specs.declared.query.Expr.{the_lemmas}
use Rattle.gcx_model.specs.Query.{Elem, QueryFor, QueryIf, cond_tree, expr_tree, expr_trees, exprs_of}
use Rattle.gcx_model.specs.Written.{end_tag}
use Rattle.xq_print.specs.Printed.{clause_text, cond_text, expr_text, expr_texts, filter_text, joined}
use Rattle.xq_print.proofs.Lists.{elem_put, loop_put, branch_put, parts_done}
use Rattle.xq_print.proofs.Folds.{fold_Elem}
use Rattle.xq_print.proofs.expr.+print_expressions.Goals as goal

pub put_expr-returns-in_ok-put_where-in-Elem-2 : goal.put_expr-returns-in_ok-put_where-in-Elem-2
put_expr-returns-in_ok-put_where-in-Elem-2 t c =
    let tree : expr_tree c.args.expr.now ≡ Elem c.in-Elem.name (exprs_of (map expr_tree c.items.result.now)) =
    ap expr_tree c.in-Elem.is ∙ (fold_Elem c.in-Elem.name c.in-Elem.body ∙ ap (λ ts. Elem c.in-Elem.name (exprs_of ts)) (sym c.items.ensures.trees)) in
    let parts : string_bytes c.put_exprs-in-Elem.new.out ≡ string_bytes c.put_where.new.out ++ joined (codes ", ") (expr_texts (exprs_of (map expr_tree c.items.result.now))) =
    c.in_ok-put_exprs-in-Elem.ensures ∙ ap (λ ts. string_bytes c.put_where.new.out ++ joined (codes ", ") (expr_texts (exprs_of ts))) (sym c.items.ensures.trees) in
    on_ok_weaker c.put_end_tag.result
    (λ (put : string_bytes c.put_end_tag.new.out ≡ string_bytes c.put_where-in-Elem.new.out ++ end_tag c.in-Elem.name).
    elem_put c.in-Elem.name c.items.result.now c.is_empty-filled.result (string_bytes c.args.out.now) (string_bytes c.put_start_tag.new.out) (string_bytes c.put_where.new.out)
    (string_bytes c.put_exprs-in-Elem.new.out) (string_bytes c.put_where-in-Elem.new.out) (string_bytes c.put_end_tag.new.out) c.is_empty-filled.ensures
    c.in_ok-put_start_tag-in-Elem.ensures c.in_ok-put_where-in-Elem.ensures parts c.in_ok-put_where-in-Elem-2.ensures put
    ∙ ap (λ e. string_bytes c.args.out.now ++ expr_text e) (sym tree))
    c.put_end_tag.ensures

pub put_expr-returns-in_ok-put_loop-in-For : goal.put_expr-returns-in_ok-put_loop-in-For
put_expr-returns-in_ok-put_loop-in-For t c =
    let tree : expr_tree c.args.expr.now ≡ QueryFor c.in-For.clauses (option_map cond_tree c.in-For.filter) (expr_tree c.deref.result.now) = grind (arith, the_lemmas) in
    on_ok_weaker c.put_expr.result
    (λ (put : string_bytes c.put_expr.new.out ≡ string_bytes c.put_loop.new.out ++ expr_text (expr_tree c.deref.result.now)).
    loop_put (string_bytes c.args.out.now) (string_bytes c.put_loop.new.out) (string_bytes c.put_expr.new.out) (joined (codes ", ") (map clause_text c.in-For.clauses)) (filter_text (option_map cond_tree c.in-For.filter))
    (expr_text (expr_tree c.deref.result.now)) c.in_ok-put_loop-in-For.ensures put
    ∙ ap (λ e. string_bytes c.args.out.now ++ expr_text e) (sym tree))
    c.put_expr.ensures

pub put_expr-returns-in_ok-push_str-in-If : goal.put_expr-returns-in_ok-push_str-in-If
put_expr-returns-in_ok-push_str-in-If t c =
    let tree : expr_tree c.args.expr.now ≡ QueryIf (cond_tree c.in-If.cond) (expr_tree c.deref-in-If.result.now) (expr_tree c.deref-in-If-2.result.now) = grind (arith, the_lemmas) in
    on_ok_weaker c.put_expr-in-If-2.result
    (λ (put : string_bytes c.put_expr-in-If-2.new.out ≡ string_bytes c.push_str-in-If.new.self ++ expr_text (expr_tree c.deref-in-If-2.result.now)).
    branch_put (string_bytes c.args.out.now) (string_bytes c.put_test.new.out) (string_bytes c.put_expr-in-If.new.out) (string_bytes c.push_str-in-If.new.self) (string_bytes c.put_expr-in-If-2.new.out)
    (cond_text (cond_tree c.in-If.cond)) (expr_text (expr_tree c.deref-in-If.result.now)) (expr_text (expr_tree c.deref-in-If-2.result.now))
    c.in_ok-put_test-in-If.ensures c.in_ok-put_expr-in-If.ensures c.in_ok-push_str-in-If.ensures.bytes put
    ∙ ap (λ e. string_bytes c.args.out.now ++ expr_text e) (sym tree))
    c.put_expr-in-If-2.ensures

pub put_exprs-returns : goal.put_exprs-returns
put_exprs-returns t c =
    parts_done (string_bytes c.args.out.now) (string_bytes c.loop-expr.out) c.items-expr-items.result.now (expr_trees c.args.exprs.now) c.loop-expr.expr-index c.loop-expr.later
    c.loop-expr.invariant (omega arith) c.items-expr-items.ensures.trees
