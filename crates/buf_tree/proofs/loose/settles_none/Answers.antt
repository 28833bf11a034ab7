use Rattle.buf_tree.proofs.PassedRows as from
use Rattle.buf_tree.proofs.loose.settles_none.Goals as goal

pub returns : goal.returns
returns c = from.settles_none
