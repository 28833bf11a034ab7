use Rattle.buf_tree.proofs.Tables.{set_past}
use Rattle.buf_tree.proofs.spread.set_top.Goals as goal

pub returns-else-place-tops : goal.returns-else-place-tops
returns-else-place-tops c = set_past _ _ _ c.if-place-tops.false
