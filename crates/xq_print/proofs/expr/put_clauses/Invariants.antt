use Rattle.std.proofs.Common.{string_bytes}
use Rattle.std.specs.Prelude.{codes}
use Rattle.gcx_model.specs.declared.query.Clause.{Clause}
use Rattle.xq_print.specs.Printed.{clause_text}
use Rattle.xq_print.proofs.Joining.{IsJoined}
use Rattle.xq_print.proofs.expr.put_clauses.Given as goal

abbrev pub invariant-loop-clause : goal.invariant-loop-clause
invariant-loop-clause l = IsJoined Clause clause_text (codes ", ") (string_bytes l.fn.out) l.clause-items l.clause-index (string_bytes l.out) l.later
