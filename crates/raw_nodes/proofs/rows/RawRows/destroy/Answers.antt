use Rattle.raw_nodes.proofs.Told.{store_told}
use Rattle.raw_nodes.proofs.rows.RawRows.destroy.Goals as goal

pub destroy-requires-clause-told : goal.destroy-requires-clause-told
destroy-requires-clause-told g c = store_told c.args.self.heap.arena.cells c.args.self.free c.args.self.root c.args.self.len c.args.self.most c.requires.store
