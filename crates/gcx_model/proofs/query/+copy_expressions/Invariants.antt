use Rattle.std.proofs.Common.{◌≡◌, take}
use Rattle.std.specs.Prelude.{map}
use Rattle.gcx_model.specs.Query.{expr_tree, expr_trees}
use Rattle.gcx_model.proofs.query.+copy_expressions.Given as goal

abbrev pub invariant-Exprs::copy-loop-expr : goal.invariant-Exprs::copy-loop-expr
invariant-Exprs::copy-loop-expr l = expr_trees l.copied ≡ map expr_tree (take l.expr-index l.expr-items)
