use Rattle.std.proofs.Common.{[], string_bytes, cond, arith}
use Rattle.std.specs.Prelude.{codes}
use Rattle.xq_print.specs.Printed.{clause_text}
use Rattle.xq_print.proofs.Joining.{one_joined, after}
use Rattle.xq_print.proofs.expr.put_clauses.Goals as goal

pub loop-clause-preserved : goal.loop-clause-preserved
loop-clause-preserved c =
    one_joined clause_text (codes ", ") (string_bytes c.args.out.now) c.items-clause-items.result.now c.loop-clause.clause-index c.clause-item.result
    (string_bytes c.loop-clause.out) (string_bytes c.put_clause.new.out) c.loop-clause.later c.loop-clause.invariant (omega arith) c.clause-item.is
    (after (string_bytes c.loop-clause.out) (string_bytes c.put_where.new.out) (string_bytes c.put_clause.new.out) (cond c.loop-clause.later (codes ", ") []) (clause_text c.clause-item.result)
    c.in_ok-put_where.ensures c.in_ok-put_clause.ensures)
