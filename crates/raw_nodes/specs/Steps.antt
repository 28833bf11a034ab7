-- What one call makes of a raw store. This follows the code: only private functions speak of it.
use Rattle.std.specs.Prelude.{◌≡◌, ◌<◌, ◌-◌, ℕ, List, Option, ◌∷◌, length, max, Some, None, is_some, if◌then◌else◌}
use Rattle.std.specs.FinMap as fin
use denote.RawPtr.{Ptr}
use Rattle.node_store.specs.Rows.{appended, planted, unlinked, parent_of}
use Rattle.node_store.specs.Links.{rows_of, linked_cell, Holds}
use Rattle.raw_nodes.specs.Nodes.{place_of, cells_of, IsFree}
use Rattle.raw_nodes.specs.Heaps.{IsHeap}
use Rattle.raw_nodes.specs.Raw.{Raw, raw_of, Spares}
use Rattle.raw_nodes.specs.declared.arena.Link.{Link}
use Rattle.raw_nodes.specs.declared.rows.RawRows.{RawRows}

module _ {T : Type 0} where
  -- a dead cell is there for a row
  pub record Ready (old new : RawRows T) (link : Link) : Type 0 where
    pub heap : IsHeap new.heap
    pub later : List ℕ
    pub free : IsFree new.heap.arena.cells (Some link) (place_of new.heap.arena.cells link.ptr ∷ later)
    pub holds : Holds (rows_of (cells_of old.heap.arena.cells)) (linked_cell (cells_of new.heap.arena.cells))
    pub fields : (new.root ≡ old.root) × (new.len ≡ old.len) × (new.most ≡ old.most)
    pub stay : (p : Ptr) → place_of old.heap.arena.cells p < length old.heap.arena.cells → place_of new.heap.arena.cells p ≡ place_of old.heap.arena.cells p
    pub spares : Spares (raw_of old) (length new.heap.arena.cells)

  -- `append`
  pub record Appends (old new : Raw T) (q p : ℕ) (x : T) : Type 0 where
    pub free : fin.get old.rows p ≡ None
    pub rows : new.rows ≡ appended old.rows q p x
    pub root : new.root ≡ old.root
    pub most : new.most ≡ max old.most (fin.len new.rows)
    pub spares : Spares old new.cells

  -- `plant`
  pub record Plants (old new : Raw T) (p : ℕ) (x : T) : Type 0 where
    pub rows : new.rows ≡ planted old.rows p x
    pub root : new.root ≡ Some p
    pub most : new.most ≡ max old.most 1
    pub spares : Spares old new.cells

  -- `unlink_leaf`
  pub record Unlinks (old new : Raw T) (p : ℕ) : Type 0 where
    pub rows : new.rows ≡ unlinked old.rows p
    pub root : new.root ≡ (if is_some (parent_of old.rows p) then old.root else None)
    pub most : new.most ≡ old.most
    pub cells : new.cells ≡ old.cells

  -- the row's cell is the first of the free list, and the root goes with it where there is no parent
  abbrev pub Closes : RawRows T → RawRows T → Link → Option Link → Type 0
  Closes old new link parent =
      new ≡ record {
        heap = record { arena = new.heap.arena; blocks = old.heap.blocks; links = old.heap.links; alloc = old.heap.alloc };
        free = Some link;
        root = if is_some parent then old.root else None;
        len = old.len - 1;
        most = old.most;
      }
