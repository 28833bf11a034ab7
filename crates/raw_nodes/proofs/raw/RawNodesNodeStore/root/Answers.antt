use Rattle.raw_nodes.proofs.Reading.{root_links}
use Rattle.raw_nodes.proofs.raw.RawNodesNodeStore.root.Goals as goal

pub place_at-requires-clause-used : goal.place_at-requires-clause-used
place_at-requires-clause-used g c = root_links c.self.inside.rows c.self.invariant
