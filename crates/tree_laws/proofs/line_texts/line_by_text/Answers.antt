use Rattle.tree_laws.proofs.Spelling as from
use Rattle.tree_laws.proofs.line_texts.line_by_text.Goals as goal

pub returns : goal.returns
returns c = from.line_by_text
