-- What a store keeps in its cells, and the rows that the cells hold. This follows the code: private functions and a
-- store's model speak of it, and no clause of a public call. All definitions here are this project's.
use Rattle.std.specs.Prelude.{◌≡◌, ◌==◌, ◌≤◌, ◌+◌, ℕ, zero, suc, List, [], ◌∷◌, length, Option, Some, None, if◌then◌else◌, option_map, slice_index_or}
use Rattle.std.specs.FinMap as map
use Rattle.node_store.specs.Rows.{StoreRow, Rows, head_of, last_of, after, before, children_of, IsTree}

-- a row as its cell keeps it: a link to the parent, the first and the last child and both siblings
pub record Linked (T : Type 0) : Type 0 where
  pub parent : Option ℕ
  pub first : Option ℕ
  pub last : Option ℕ
  pub prev : Option ℕ
  pub next : Option ℕ
  pub payload : T

-- the cells by place, where a dead cell holds nothing
abbrev pub Cells : Type 0 → Type 0
Cells T = List (Option (Linked T))

module _ {T : Type 0} where
  abbrev pub linked_cell : Cells T → ℕ → Option (Linked T)
  linked_cell cells p = slice_index_or cells p None

  abbrev pub next_in : Option (Linked T) → Option ℕ
  next_in None = None
  next_in (Some m) = m.next

  -- the siblings from a place on, at most so many
  abbrev pub siblings : ℕ → Cells T → Option ℕ → List ℕ
  siblings zero cells place = []
  siblings (suc n) cells None = []
  siblings (suc n) cells (Some p) = p ∷ siblings n cells (next_in (linked_cell cells p))

  abbrev pub entry_in : Cells T → Linked T → StoreRow T
  entry_in cells m = record { parent = m.parent; children = siblings (length cells) cells m.first; payload = m.payload }

  -- the rows of these cells, the first of which has the place k
  abbrev pub rows_from : Cells T → ℕ → Cells T → Rows T
  rows_from all k [] = map.empty
  rows_from all k (None ∷ cells) = rows_from all (k + 1) cells
  rows_from all k (Some m ∷ cells) = map.insert (rows_from all (k + 1) cells) k (entry_in all m)

  unfoldable pub rows_of : Cells T → Rows T
  rows_of cells = rows_from cells 0 cells

  -- the row e at p as a cell keeps it
  abbrev pub linked_at : Rows T → ℕ → StoreRow T → Linked T
  linked_at rows p e =
      record {
        parent = e.parent;
        first = head_of e.children;
        last = last_of e.children;
        prev = before p (children_of rows e.parent);
        next = after p (children_of rows e.parent);
        payload = e.payload;
      }

  -- each cell keeps the row under its place, and a cell without a row is dead
  abbrev pub Holds : Rows T → (ℕ → Option (Linked T)) → Type 0
  Holds rows cells = (p : ℕ) → cells p ≡ option_map (linked_at rows p) (map.get rows p)

  -- the cell at k changed by f, where it isn't dead
  abbrev pub altered : (Linked T → Linked T) → ℕ → (ℕ → Option (Linked T)) → ℕ → Option (Linked T)
  altered f k cells p = if p == k then option_map f (cells p) else cells p

  -- this in the cell k
  abbrev pub put : ℕ → Option (Linked T) → (ℕ → Option (Linked T)) → ℕ → Option (Linked T)
  put k cell cells p = if p == k then cell else cells p

  -- a new row's cell, whose link to the sibling before it is any
  abbrev pub fresh_cell : Option ℕ → Option ℕ → T → Linked T
  fresh_cell parent prev x = record { parent = parent; first = None; last = None; prev = prev; next = None; payload = x }

  abbrev pub with_first : Option ℕ → Linked T → Linked T
  with_first place m = record m { first = place }

  abbrev pub with_last : Option ℕ → Linked T → Linked T
  with_last place m = record m { last = place }

  abbrev pub with_prev : Option ℕ → Linked T → Linked T
  with_prev place m = record m { prev = place }

  abbrev pub with_next : Option ℕ → Linked T → Linked T
  with_next place m = record m { next = place }

  abbrev pub with_paid : T → Linked T → Linked T
  with_paid x m = record m { payload = x }

  -- what stands at the right of `left` below the parent is `right`
  abbrev pub right_set : Option ℕ → Option ℕ → Option ℕ → (ℕ → Option (Linked T)) → ℕ → Option (Linked T)
  right_set parent (Some l) right cells = altered (with_next right) l cells
  right_set (Some q) None right cells = altered (with_first right) q cells
  right_set None None right cells = cells

  -- what stands at the left of `right` below the parent is `left`
  abbrev pub left_set : Option ℕ → Option ℕ → Option ℕ → (ℕ → Option (Linked T)) → ℕ → Option (Linked T)
  left_set parent left (Some r) cells = altered (with_prev left) r cells
  left_set (Some q) left None cells = altered (with_last left) q cells
  left_set None left None cells = cells

  -- `left` and `right` are neighbours below the parent, where None is the list's end
  abbrev pub joined : Option ℕ → Option ℕ → Option ℕ → (ℕ → Option (Linked T)) → ℕ → Option (Linked T)
  joined parent left right cells = left_set parent left right (right_set parent left right cells)

-- what holds of a store's cells: they hold rows that form one tree or none, and the rows are at most `most`
pub record IsSound {T : Type 0} (cells : Cells T) (root : Option ℕ) (most : ℕ) : Type 0 where
  pub holds : Holds (rows_of cells) (linked_cell cells)
  pub tree : IsTree (rows_of cells) root
  pub within : map.len (rows_of cells) ≤ most
