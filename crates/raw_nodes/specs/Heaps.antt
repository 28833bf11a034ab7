-- How blocks, links and cells agree. This follows the code: only private functions and the store's model speak of it.
-- All definitions here are this project's.
use Rattle.std.specs.Prelude.{◌≡◌, List, [], ◌∷◌, ◌++◌, map, length, Some}
use denote.RawPtr.{Ptr}
use Rattle.std.specs.List.{AllByRecursion}
use Rattle.raw_nodes.specs.Spots.{Spot, places, IsApart, IsInSomeBlock}
use Rattle.raw_nodes.specs.Nodes.{Numbered, dead_nodes, head_link}
use Rattle.raw_nodes.specs.declared.arena.Link.{Link}
use Rattle.raw_nodes.specs.declared.node.Node.{Node}
use Rattle.raw_nodes.specs.declared.heap.Block.{Block}
use Rattle.raw_nodes.specs.declared.heap.Heap.{Heap}

abbrev pub addresses : List Link → List Ptr
addresses = map (λ l. l.ptr)

module _ {T : Type 0} where
  -- a block's parts speak of the same 256 cells
  abbrev pub IsBlock : Block T → Type 0
  IsBlock b = (b.run.at ≡ b.base.ptr) × (length b.run.places ≡ 256) × (b.deed.at ≡ b.base.ptr) × (b.deed.len ≡ 256)

  abbrev pub AreBlocks : List (Block T) → Type 0
  AreBlocks [] = Unit {0}
  AreBlocks (b ∷ bs) = IsBlock b × AreBlocks bs

  -- the places of the blocks' cells, one block behind the other
  abbrev pub block_places : List (Block T) → List Ptr
  block_places [] = []
  block_places (b ∷ bs) = b.run.places ++ block_places bs

  pub record IsHeap (h : Heap T) : Type 0 where
    pub apart : IsApart h.arena.cells
    pub placed : AllByRecursion IsInSomeBlock (places h.arena.cells)
    pub table : places h.arena.cells ≡ addresses h.links.items
    pub blocks : AreBlocks h.blocks.items
    pub laid : places h.arena.cells ≡ block_places h.blocks.items
    pub numbered : Numbered 0 h.arena.cells

  -- 256 dead cells more, each linked to the next
  abbrev pub Grows : Heap T → Heap T → Link → Type 0
  Grows old new first =
      (links : List Link) × (length links ≡ 256) × (head_link links ≡ Some first) × (more : List (Spot (Node T)))
      × (new.arena.cells ≡ old.arena.cells ++ more) × (places more ≡ addresses links) × (map (λ s. s.held) more ≡ dead_nodes (length old.arena.cells) links)
