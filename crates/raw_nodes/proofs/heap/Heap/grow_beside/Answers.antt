use Rattle.std.proofs.Common.{◌≡◌, sym, subst}
use Rattle.std.specs.Prelude.{IfOk, OnErr}
use Rattle.raw_nodes.specs.Heaps.{IsHeap, Grows}
use Rattle.raw_nodes.specs.declared.arena.Arena.{Arena}
use Rattle.raw_nodes.specs.declared.node.Node.{Node}
use Rattle.raw_nodes.specs.declared.heap.Heap.{Heap}
use Rattle.raw_nodes.proofs.heap.Heap.grow_beside.Goals as goal

-- the heap with this owner
abbrev heap_with : {T : Type 0} → Heap T → Arena (Node T) → Heap T
heap_with h arena = record { arena = arena; blocks = h.blocks; links = h.links; alloc = h.alloc }

pub grow-made-requires-clause-heap : goal.grow-made-requires-clause-heap
grow-made-requires-clause-heap g c = subst (λ a. IsHeap (heap_with c.args.self.now a)) (sym c.bytes_of-bytes.ensures.arena) c.requires.heap

pub returns-clause-ok : goal.returns-clause-ok
returns-clause-ok g c =
    subst (λ a. IfOk c.grow-made.result (λ first. Grows (heap_with c.args.self.now a) c.grow-made.new.self first)) c.bytes_of-bytes.ensures.arena c.grow-made.ensures.ok

pub returns-clause-err : goal.returns-clause-err
returns-clause-err g c =
    subst (λ a. OnErr c.grow-made.result (c.grow-made.new.self.arena.cells ≡ (heap_with c.args.self.now a).arena.cells)) c.bytes_of-bytes.ensures.arena c.grow-made.ensures.err
