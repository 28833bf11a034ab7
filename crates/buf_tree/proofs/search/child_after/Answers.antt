use Rattle.std.proofs.Common.{sym, ◌∙◌}
use Rattle.buf_tree.proofs.Going.{from_top, from_child}
use Rattle.buf_tree.proofs.search.child_after.Goals as goal

pub returns-then-is_same : goal.returns-then-is_same
returns-then-is_same g c d h i j e f k = from_top _ c.requires.shape d h _ _ i j e f (sym c.is_same.ensures ∙ c.if-is_same.true) _ c.first.ensures.value

pub returns-else-is_same : goal.returns-else-is_same
returns-else-is_same g c d h i j e f k = from_child _ c.requires.shape d h _ _ i j e f (sym c.is_same.ensures ∙ c.if-is_same.false) k _ c.next.ensures.value
