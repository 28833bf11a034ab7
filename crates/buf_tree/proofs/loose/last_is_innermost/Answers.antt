use Rattle.buf_tree.proofs.OwnPlaces as from
use Rattle.buf_tree.proofs.loose.last_is_innermost.Goals as goal

pub returns : goal.returns
returns c = from.last_is_innermost
