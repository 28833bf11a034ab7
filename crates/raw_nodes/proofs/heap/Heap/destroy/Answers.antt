use Rattle.std.proofs.Common.{sym, ap, subst, ◌∙◌}
use Rattle.raw_nodes.specs.Spots.{places}
use Rattle.raw_nodes.specs.Heaps.{AreBlocks, block_places}
use Rattle.raw_nodes.proofs.Emptying.{last_parts, last_block, blocks_left, AreTold, told_front}
use Rattle.raw_nodes.proofs.heap.Heap.destroy.Goals as goal

pub free_block-requires-clause-last : goal.free_block-requires-clause-last
free_block-requires-clause-last g c =
    let parts = last_parts c.pop.new.self.items c.in-Some.block (subst AreBlocks c.in-Some.ensures.items c.loop-block.invariant.0) in
    last_block c.pop.new.self.items c.in-Some.block c.loop-block.arena.cells (c.loop-block.invariant.1 ∙ ap block_places c.in-Some.ensures.items) parts.1.1

pub loop-block-init : goal.loop-block-init
loop-block-init g c = (c.requires.heap.blocks, c.requires.heap.laid, c.requires.told)

pub free_block-requires-clause-block : goal.free_block-requires-clause-block
free_block-requires-clause-block g c = (last_parts c.pop.new.self.items c.in-Some.block (subst AreBlocks c.in-Some.ensures.items c.loop-block.invariant.0)).1

pub loop-block-preserved : goal.loop-block-preserved
loop-block-preserved g c =
    let parts = last_parts c.pop.new.self.items c.in-Some.block (subst AreBlocks c.in-Some.ensures.items c.loop-block.invariant.0) in (
      parts.0,
      ap places c.free_block.ensures
          ∙ blocks_left c.pop.new.self.items c.in-Some.block c.loop-block.arena.cells (c.loop-block.invariant.1 ∙ ap block_places c.in-Some.ensures.items) parts.1.1,
      subst AreTold (sym c.free_block.ensures) (told_front _ c.loop-block.arena.cells c.loop-block.invariant.2),
    )
