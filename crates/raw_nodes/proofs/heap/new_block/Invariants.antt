use Rattle.std.proofs.Common.{◌≡◌, ◌++◌, ◌+◌, vec_len, vec_capacity}
use Rattle.std.specs.Mem.{type_size}
use Rattle.raw_nodes.specs.Spots.{run_places}
use Rattle.raw_nodes.specs.Heaps.{addresses}
use Rattle.raw_nodes.proofs.heap.new_block.Given as goal

abbrev pub invariant-loop-index : goal.invariant-loop-index
invariant-loop-index g l =
    (addresses l.links.items ≡ addresses l.initial.links.items ++ run_places (type_size g.row.N) l.base.ptr l.index)
    × (vec_len l.links ≡ vec_len l.initial.links + l.index)
    × (vec_capacity l.links ≡ vec_capacity l.initial.links)
