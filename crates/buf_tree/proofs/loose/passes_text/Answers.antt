use Rattle.buf_tree.proofs.PassedOpening as from
use Rattle.buf_tree.proofs.loose.passes_text.Goals as goal

pub returns : goal.returns
returns c = from.passes_text
