-- What the cells hold, as a store's cells are seen. This follows the code: only private functions and the store's model
-- speak of it. All definitions here are this project's.
use Rattle.std.specs.Prelude.{◌≡◌, ◌<◌, ◌||◌, ℕ, suc, Bool, true, false, not, is_some, if◌then◌else◌, List, [], ◌∷◌, map, length, Option, Some, None, option_map, slice_index_or}
use Rattle.std.specs.FinMap as fin
use denote.RawPtr.{Ptr}
use Rattle.node_store.specs.Rows.{Distinct, is_listed}
use Rattle.node_store.specs.Links.{Linked, Cells, linked_cell, rows_of, IsSound}
use Rattle.raw_nodes.specs.Spots.{Spot, same_ptr}
use Rattle.raw_nodes.specs.declared.arena.Link.{Link}
use Rattle.raw_nodes.specs.declared.node.Node.{Node}

-- the number of the first cell that lies at a pointer, and the number of cells where none does
abbrev pub place_of : {X : Type 0} → List (Spot X) → Ptr → ℕ
place_of [] p = 0
place_of (s ∷ ss) p = if same_ptr s.at p then 0 else suc (place_of ss p)

abbrev pub index_in : {X : Type 0} → List (Spot X) → Option Link → Option ℕ
index_in cells link = option_map (λ k. place_of cells k.ptr) link

abbrev pub head_link : List Link → Option Link
head_link [] = None
head_link (l ∷ ls) = Some l

module _ {T : Type 0} where
  -- a dead cell, which leads to itself as its last child and to the one that is used after it
  abbrev pub dead_node : ℕ → Option Link → Option Link → Node T
  dead_node number own next = record { number = number; parent = None; first = None; last = own; prev = None; next = next; payload = None }

  abbrev pub paid_node : Node T → T → Node T
  paid_node n x = record n { payload = Some x }

  -- a node among these cells, as a store's cell
  abbrev pub linked_in : List (Spot (Node T)) → Node T → Option (Linked T)
  linked_in cells n =
      option_map (λ x. record {
        parent = index_in cells n.parent;
        first = index_in cells n.first;
        last = index_in cells n.last;
        prev = index_in cells n.prev;
        next = index_in cells n.next;
        payload = x;
      }) n.payload

  abbrev pub cells_of : List (Spot (Node T)) → Cells T
  cells_of cells = map (λ s. linked_in cells s.held) cells

  -- the node of the cell with this number
  abbrev pub node_at : List (Spot (Node T)) → ℕ → Option (Node T)
  node_at cells k = slice_index_or (map (λ s. Some s.held) cells) k None

  -- the links that a living node keeps
  pub record Keeps (cells : List (Spot (Node T))) (n : Node T) (m : Linked T) : Type 0 where
    pub parent : index_in cells n.parent ≡ m.parent
    pub first : index_in cells n.first ≡ m.first
    pub last : index_in cells n.last ≡ m.last
    pub prev : index_in cells n.prev ≡ m.prev
    pub next : index_in cells n.next ≡ m.next
    pub payload : n.payload ≡ Some m.payload

  -- the links are those of a row: there is a first child, or no last one
  abbrev pub is_row : Node T → Bool
  is_row n = is_some n.first || not (is_some n.last)

  -- the links tell whether there is a payload
  abbrev pub IsToldByLinks : Node T → Type 0
  IsToldByLinks n = is_row n ≡ is_some n.payload

  abbrev pub IsDeadCell : Node T → Type 0
  IsDeadCell n = (n.payload ≡ None) × (is_row n ≡ false)

  -- each cell keeps its own number
  abbrev pub Numbered : ℕ → List (Spot (Node T)) → Type 0
  Numbered k [] = Unit {0}
  Numbered k (s ∷ ss) = (s.held.number ≡ k) × Numbered (suc k) ss

  -- the dead cells with these numbers, each linked to the next
  abbrev pub Chain : List (Spot (Node T)) → Option Link → List ℕ → Type 0
  Chain cells link [] = link ≡ None
  Chain cells link (f ∷ fs) =
      (l : Link) × (n : Node T) × (link ≡ Some l) × (place_of cells l.ptr ≡ f) × (node_at cells f ≡ Some n) × IsDeadCell n × Chain cells n.next fs

  -- dead cells side by side, the first of which has this number, each linked to the next
  abbrev pub dead_nodes : ℕ → List Link → List (Node T)
  dead_nodes k [] = []
  dead_nodes k (l ∷ ls) = dead_node k (Some l) (head_link ls) ∷ dead_nodes (suc k) ls

  -- the free list has each dead cell once
  pub record IsFree (cells : List (Spot (Node T))) (free : Option Link) (fs : List ℕ) : Type 0 where
    pub chain : Chain cells free fs
    pub once : Distinct fs
    pub all : (k : ℕ) → k < length cells → linked_cell (cells_of cells) k ≡ None → is_listed k fs ≡ true

  -- what holds of a store's fields
  pub record IsStore (cells : List (Spot (Node T))) (free root : Option Link) (len most : ℕ) : Type 0 where
    pub sound : IsSound (cells_of cells) (index_in cells root) most
    pub count : len ≡ fin.len (rows_of (cells_of cells))
    pub dead : (fs : List ℕ) × IsFree cells free fs
