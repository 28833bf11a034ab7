use Rattle.buf_tree.proofs.OwnPlaces as from
use Rattle.buf_tree.proofs.loose.rows_rise.Goals as goal

pub returns : goal.returns
returns c = from.rows_rise
