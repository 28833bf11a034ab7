use Rattle.std.proofs.Common.{sym}
use Rattle.buf_tree.proofs.Seeking.{sibling_before, parent_before}
use Rattle.buf_tree.proofs.search.before.Goals as goal

pub returns-in-Some : goal.returns-in-Some
returns-in-Some g c = sibling_before _ c.requires.shape c.requires.nested _ _ _ (sym c.in-Some.ensures.value) c.tail.ensures

pub returns-in-None : goal.returns-in-None
returns-in-None g c = parent_before _ c.requires.shape c.requires.nested _ _ (sym c.in-None.ensures.value) c.parent.ensures.value
