use Rattle.buf_tree.proofs.PassedEnds as from
use Rattle.buf_tree.proofs.loose.ends_passed.Goals as goal

pub returns : goal.returns
returns c = from.ends_passed
