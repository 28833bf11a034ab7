use Rattle.cond_memo.proofs.PathRows.{Skips, rows_left}
use Rattle.cond_memo.proofs.taken.Taken.match_from.Given as goal

abbrev pub invariant-rows : goal.invariant-rows
invariant-rows g l = Skips l.buffer l.node.0 l.self.steps l.self.last l.fn.from l.at

abbrev pub decreases-rows : goal.decreases-rows
decreases-rows g l = rows_left l.buffer.rows l.at
