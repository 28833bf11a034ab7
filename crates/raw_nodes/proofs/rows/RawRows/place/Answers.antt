use Rattle.raw_nodes.proofs.Stored.{number_is}
use Rattle.raw_nodes.proofs.rows.RawRows.place.Goals as goal

pub returns : goal.returns
returns g c = number_is c.args.self.now.heap.arena.cells c.requires.raw.heap.numbered c.args.link.ptr c.follow.result.now c.follow.ensures
