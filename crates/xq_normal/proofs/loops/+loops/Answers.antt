use Rattle.std.proofs.Common.{map, ap, arith, drop, sym, ◌∙◌}
use Rattle.std.proofs.lemmas.List.{drop_all}
use Rattle.gcx_model.specs.Query.{expr_tree, exprs_of}
use Rattle.gcx_model.specs.Normal.{all_loops, loops}
use Rattle.gcx_model.proofs.Folds.{fold_Elem}
use Rattle.xq_normal.specs.Shapes.{capped}
use Rattle.xq_normal.proofs.Counts.{counted}
use Rattle.xq_normal.proofs.loops.+loops.Goals as goal

pub all_loops-returns : goal.all_loops-returns
all_loops-returns t c =
    counted c.loop-expr.count (all_loops (exprs_of (map expr_tree (drop c.loop-expr.expr-index c.items-expr-items.result.now)))) (all_loops (exprs_of (map expr_tree c.items-expr-items.result.now))) c.loop-expr.invariant.fits
    (ap (λ es. all_loops (exprs_of (map expr_tree es))) (drop_all c.loop-expr.expr-index c.items-expr-items.result.now (omega arith))) c.loop-expr.invariant.adds
    ∙ ap (λ ts. capped (all_loops (exprs_of ts))) c.items-expr-items.ensures.trees

pub expr_loops-returns-in-Elem : goal.expr_loops-returns-in-Elem
expr_loops-returns-in-Elem t c = c.all_loops-in-Elem.ensures ∙ ap (λ e. capped (loops e)) (sym (ap expr_tree c.in-Elem.is ∙ fold_Elem c.in-Elem.name c.in-Elem.body))
