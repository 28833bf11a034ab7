use Rattle.buf_tree.proofs.PassedOpening as from
use Rattle.buf_tree.proofs.loose.passes_element.Goals as goal

pub returns : goal.returns
returns c = from.passes_element
