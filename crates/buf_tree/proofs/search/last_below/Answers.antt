use Rattle.std.proofs.Common.{sym, ◌∙◌}
use Rattle.buf_tree.proofs.Seeking.{none_below, last_inside}
use Rattle.buf_tree.proofs.search.last_below.Goals as goal

pub returns-then-is_same : goal.returns-then-is_same
returns-then-is_same g c = none_below _ c.requires.shape c.requires.nested _ _ (sym c.is_same.ensures ∙ c.if-is_same.true) c.tail-last.ensures

pub returns-else-is_same : goal.returns-else-is_same
returns-else-is_same g c = last_inside _ c.requires.shape c.requires.nested _ _ (sym c.is_same.ensures ∙ c.if-is_same.false) c.tail-last.ensures
