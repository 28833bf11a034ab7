use Rattle.raw_nodes.proofs.Reading.{node_keeps}
use Rattle.raw_nodes.proofs.rows.RawRows.node.Goals as goal

pub returns : goal.returns
returns g c = node_keeps c.args.self.now c.requires.raw c.args.place.0 c.link.result c.follow.result.now c.link.ensures.place c.follow.ensures
