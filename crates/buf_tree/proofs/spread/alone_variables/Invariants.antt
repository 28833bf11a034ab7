use Rattle.std.proofs.Common.{◌≡◌}
use Rattle.buf_tree.proofs.Tables.{alone_to}
use Rattle.buf_tree.proofs.spread.alone_variables.Given as goal

abbrev pub invariant-loop-row : goal.invariant-loop-row
invariant-loop-row l = l.alone.items ≡ alone_to l.rows l.row-index
