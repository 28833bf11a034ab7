use Rattle.std.proofs.Common.{◌≡◌}
use Rattle.raw_nodes.specs.Spots.{places}
use Rattle.raw_nodes.specs.Heaps.{AreBlocks, block_places}
use Rattle.raw_nodes.proofs.Emptying.{AreTold}
use Rattle.raw_nodes.proofs.heap.Heap.destroy.Given as goal

abbrev pub invariant-loop-block : goal.invariant-loop-block
invariant-loop-block g l = AreBlocks l.blocks.items × (places l.arena.cells ≡ block_places l.blocks.items) × AreTold l.arena.cells

abbrev pub decreases-loop-block : goal.decreases-loop-block
decreases-loop-block g l = goal.left-loop-block g l
