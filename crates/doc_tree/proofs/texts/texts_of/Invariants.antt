use Rattle.std.proofs.Common.{◌≡◌, take}
use Rattle.doc_tree.specs.Copies.{row_texts}
use Rattle.doc_tree.proofs.texts.texts_of.Given as goal

abbrev pub invariant-loop-row : goal.invariant-loop-row
invariant-loop-row l = l.texts.items ≡ row_texts (take l.row-index l.rows)
