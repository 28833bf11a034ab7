use Rattle.std.proofs.Common.{◌-◌, length, map, drop, ◌∙◌}
use Rattle.raw_nodes.proofs.Emptying.{mapped_held, last_long, told_end}
use Rattle.raw_nodes.proofs.heap.free_block.Goals as goal

pub empty-requires-clause-filled : goal.empty-requires-clause-filled
empty-requires-clause-filled g c = (
  map (λ s. s.held) (drop (length c.args.arena.now.cells - length c.args.block.run.places) c.args.arena.now.cells),
  c.release-cells.ensures.result.1 ∙ mapped_held _,
  last_long c.args.arena.now.cells c.args.block.run.places c.requires.last ∙ c.requires.block.1,
  told_end (length c.args.arena.now.cells - length c.args.block.run.places) c.args.arena.now.cells c.requires.told,
)
