use Rattle.buf_tree.proofs.PassedRows as from
use Rattle.buf_tree.proofs.loose.settles_one.Goals as goal

pub returns : goal.returns
returns c = from.settles_one
