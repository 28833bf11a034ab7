use Rattle.buf_tree.proofs.OpenRows as from
use Rattle.buf_tree.proofs.loose.row_there.Goals as goal

pub returns : goal.returns
returns c = from.row_there
