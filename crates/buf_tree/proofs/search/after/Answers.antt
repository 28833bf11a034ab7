use Rattle.std.proofs.Common.{sym}
use Rattle.buf_tree.proofs.Going.{behind_child}
use Rattle.buf_tree.proofs.search.after.Goals as goal

pub returns-in-Some : goal.returns-in-Some
returns-in-Some g c d h i j e f = behind_child _ c.requires.shape c.requires.nested _ _ (sym c.in-Some.ensures.value) d h i j f (c.requires.within d h i j e f)

pub behind-requires-clause-leaf : goal.behind-requires-clause-leaf
behind-requires-clause-leaf g c = sym c.in-None.ensures.value
