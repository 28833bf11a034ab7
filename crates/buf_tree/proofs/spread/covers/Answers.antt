use Rattle.buf_tree.proofs.KeepingTops.{keeps_some, keeps_none}
use Rattle.buf_tree.proofs.spread.covers.Goals as goal

pub returns-in-Some : goal.returns-in-Some
returns-in-Some c = rw c.in-Some.is (keeps_some c.in-Some.spread c.args.row.now _ _ c.covers.ensures c.roles.ensures)

pub returns-in-None : goal.returns-in-None
returns-in-None c = rw c.in-None.is (keeps_none c.args.row.now)
