use Rattle.tree_laws.proofs.Spelling as from
use Rattle.tree_laws.proofs.line_texts.lines_by_text.Goals as goal

pub returns : goal.returns
returns c = from.lines_by_text
