use Rattle.buf_tree.proofs.PassedRows as from
use Rattle.buf_tree.proofs.loose.one_row_more.Goals as goal

pub returns : goal.returns
returns c = from.one_row_more
