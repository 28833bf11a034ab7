use Rattle.raw_nodes.specs.Edits.{to_prev}
use Rattle.raw_nodes.proofs.Updates.{written_updated}
use Rattle.raw_nodes.proofs.edit.set_prev.Goals as goal

pub returns : goal.returns
returns g c = written_updated (to_prev c.args.prev) c.args.arena.now.cells c.args.at.ptr c.follow_mut-node.result.now c.follow_mut-node.ensures.value
