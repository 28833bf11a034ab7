use Rattle.std.proofs.Common.{string_bytes}
use Rattle.std.specs.Prelude.{codes}
use Rattle.gcx_model.specs.declared.query.Expr.{Expr}
use Rattle.xq_print.proofs.Joining.{IsJoined}
use Rattle.xq_print.proofs.Lists.{part_text}
use Rattle.xq_print.proofs.expr.+print_expressions.Given as goal

abbrev pub invariant-put_exprs-loop-expr : goal.invariant-put_exprs-loop-expr
invariant-put_exprs-loop-expr l = IsJoined Expr part_text (codes ", ") (string_bytes l.fn.out) l.expr-items l.expr-index (string_bytes l.out) l.later
