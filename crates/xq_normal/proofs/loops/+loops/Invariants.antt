use Rattle.std.proofs.Common.{◌≡◌, ◌+◌, ◌<◌, ◌^◌, drop, map}
use Rattle.gcx_model.specs.Query.{expr_tree, exprs_of}
use Rattle.gcx_model.specs.Normal.{all_loops}
use Rattle.xq_normal.specs.Shapes.{capped}
use Rattle.xq_normal.proofs.loops.+loops.Given as goal

abbrev pub invariant-all_loops-loop-expr : goal.invariant-all_loops-loop-expr
invariant-all_loops-loop-expr l = record {
  adds : capped (l.count + all_loops (exprs_of (map expr_tree (drop l.expr-index l.expr-items)))) ≡ capped (all_loops (exprs_of (map expr_tree l.expr-items)));
  fits : l.count < 2 ^ 64;
}
