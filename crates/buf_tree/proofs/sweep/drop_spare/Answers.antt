use Rattle.std.proofs.Common.{rules}
use Rattle.buf_tree.proofs.Purging.{some_entry}
use Rattle.buf_tree.proofs.sweep.drop_spare.Goals as goal

pub drop_row-requires-clause-spare : goal.drop_row-requires-clause-spare
drop_row-requires-clause-spare g c =
    let r = some_entry _ c.requires.there in
    (r.0, r.1, (c.is_spare.ensures r.0 r.1).0 (search rules))
