-- What the links of a row's node tell.
use Rattle.std.proofs.Common.{◌≡◌, ℕ, Option, Some, None, List, length, refl, sym, ap, ◌∙◌}
use Rattle.std.proofs.lemmas.List.{length-map}
use Rattle.std.specs.Prelude.{option_map, IsSome, IfSome}
use Rattle.std.specs.FinMap as fin
use Rattle.node_store.specs.declared.store.Place.{Place}
use Rattle.node_store.specs.Rows.{Rows, StoreRow}
use Rattle.node_store.specs.Links.{rows_of, linked_at}
use Rattle.node_store.proofs.Maps.{some_row, is_there}
use Rattle.raw_nodes.specs.Spots.{Spot, found}
use Rattle.raw_nodes.specs.Nodes.{place_of, index_in, cells_of, Keeps}
use Rattle.raw_nodes.specs.Raw.{IsRaw}
use Rattle.raw_nodes.specs.declared.arena.Link.{Link}
use Rattle.raw_nodes.specs.declared.node.Node.{Node}
use Rattle.raw_nodes.specs.declared.rows.RawRows.{RawRows}
use Rattle.raw_nodes.proofs.Blocks.{held_at, found_at}
use Rattle.raw_nodes.proofs.Looks.{look_node, node_of, found_living}
use Rattle.raw_nodes.proofs.Stored.{alive_of, parent_used, first_used, last_used, next_used, prev_used}
use Rattle.raw_nodes.proofs.Readying.{keeps}

module _ {T : Type 0} where
  used_links : (cells : List (Spot (Node T))) (rows : Rows T) (l : Option Link) → ((j : ℕ) → index_in cells l ≡ Some j → IsSome (fin.get rows j)) → IfSome l (λ l. IsSome (fin.get rows (place_of cells l.ptr)))
  used_links cells rows None used = tt
  used_links cells rows (Some l) used = used (place_of cells l.ptr) refl

  used_places : (rows : Rows T) (o : Option Place) (v : Option ℕ) → option_map (λ p. p.0) o ≡ v → ((j : ℕ) → v ≡ Some j → IsSome (fin.get rows j)) → IfSome o (λ p. IsSome (fin.get rows p.0))
  used_places rows None v e used = tt
  used_places rows (Some p) v e used = used p.0 (sym e)

  -- a row's node, with its payload
  pub row_node : (cells : List (Spot (Node T))) (k : ℕ) (link : Link) → place_of cells link.ptr ≡ k → IsSome (fin.get (rows_of (cells_of cells)) k) → (n : Node T) × (found cells link.ptr ≡ Some n) × IsSome n.payload
  row_node cells k link at used =
      let one = node_of cells k (alive_of cells k used) in
      (one.0, found_at cells link.ptr ∙ ap (held_at cells) at ∙ one.1, one.2)

  module _ (r : RawRows T) (raw : IsRaw r) where
    abbrev cells : List (Spot (Node T))
    cells = r.heap.arena.cells

    abbrev rows : Rows T
    rows = rows_of (cells_of r.heap.arena.cells)

    pub place_found : (p : Link) → IsSome (fin.get rows (place_of cells p.ptr)) → IsSome (found cells p.ptr)
    place_found p used = found_living cells p (alive_of cells (place_of cells p.ptr) used)

    pub node_keeps : (k : ℕ) (link : Link) (n : Node T) → place_of cells link.ptr ≡ k → found cells link.ptr ≡ Some n → (e : StoreRow T) → fin.get rows k ≡ Some e → Keeps cells n (linked_at rows k e)
    node_keeps k link n at is e has =
        keeps cells n (linked_at rows k e)
        (sym (look_node cells k n (ap (held_at cells) (sym at) ∙ sym (found_at cells link.ptr) ∙ is)) ∙ raw.store.sound.holds k ∙ ap (option_map (linked_at rows k)) has)

    -- each cell has a link
    pub links_long : length r.heap.links.items ≡ length cells
    links_long = sym (length-map r.heap.links.items (λ (l : Link). l.ptr)) ∙ sym (ap length raw.heap.table) ∙ length-map cells (λ (s : Spot (Node T)). s.at)

    -- the root
    root_is_used : (j : ℕ) → index_in cells r.root ≡ Some j → IsSome (fin.get rows j)
    root_is_used j h = let top = raw.store.sound.tree.top j h in is_there rows j top.0 top.1

    pub root_links : IfSome r.root (λ l. IsSome (fin.get rows (place_of cells l.ptr)))
    root_links = used_links cells rows r.root root_is_used

    module _ (k : ℕ) (used : IsSome (fin.get rows k)) (n : Node T) (all : (e : StoreRow T) → fin.get rows k ≡ Some e → Keeps cells n (linked_at rows k e)) where
      abbrev row : (e : StoreRow T) × (fin.get rows k ≡ Some e)
      row = some_row (fin.get rows k) used

      links : Keeps cells n (linked_at rows k row.0)
      links = all row.0 row.1

      parent_is_used : (j : ℕ) → index_in cells n.parent ≡ Some j → IsSome (fin.get rows j)
      parent_is_used j h = parent_used rows (index_in cells r.root) raw.store.sound.tree k row.0 row.1 j (sym links.parent ∙ h)

      first_is_used : (j : ℕ) → index_in cells n.first ≡ Some j → IsSome (fin.get rows j)
      first_is_used j h = first_used rows (index_in cells r.root) raw.store.sound.tree k row.0 row.1 j (sym links.first ∙ h)

      last_is_used : (j : ℕ) → index_in cells n.last ≡ Some j → IsSome (fin.get rows j)
      last_is_used j h = last_used rows (index_in cells r.root) raw.store.sound.tree k row.0 row.1 j (sym links.last ∙ h)

      next_is_used : (j : ℕ) → index_in cells n.next ≡ Some j → IsSome (fin.get rows j)
      next_is_used j h = next_used rows (index_in cells r.root) raw.store.sound.tree k row.0 row.1 j (sym links.next ∙ h)

      prev_is_used : (j : ℕ) → index_in cells n.prev ≡ Some j → IsSome (fin.get rows j)
      prev_is_used j h = prev_used rows (index_in cells r.root) raw.store.sound.tree k row.0 row.1 j (sym links.prev ∙ h)

      pub parent_links : IfSome n.parent (λ l. IsSome (fin.get rows (place_of cells l.ptr)))
      parent_links = used_links cells rows n.parent parent_is_used

      pub first_links : IfSome n.first (λ l. IsSome (fin.get rows (place_of cells l.ptr)))
      first_links = used_links cells rows n.first first_is_used

      pub last_links : IfSome n.last (λ l. IsSome (fin.get rows (place_of cells l.ptr)))
      last_links = used_links cells rows n.last last_is_used

      pub next_links : IfSome n.next (λ l. IsSome (fin.get rows (place_of cells l.ptr)))
      next_links = used_links cells rows n.next next_is_used

      pub prev_links : IfSome n.prev (λ l. IsSome (fin.get rows (place_of cells l.ptr)))
      prev_links = used_links cells rows n.prev prev_is_used

      pub parent_places : (o : Option Place) → option_map (λ p. p.0) o ≡ index_in cells n.parent → IfSome o (λ p. IsSome (fin.get rows p.0))
      parent_places o e = used_places rows o (index_in cells n.parent) e parent_is_used

      pub first_places : (o : Option Place) → option_map (λ p. p.0) o ≡ index_in cells n.first → IfSome o (λ p. IsSome (fin.get rows p.0))
      first_places o e = used_places rows o (index_in cells n.first) e first_is_used

      pub last_places : (o : Option Place) → option_map (λ p. p.0) o ≡ index_in cells n.last → IfSome o (λ p. IsSome (fin.get rows p.0))
      last_places o e = used_places rows o (index_in cells n.last) e last_is_used

      pub next_places : (o : Option Place) → option_map (λ p. p.0) o ≡ index_in cells n.next → IfSome o (λ p. IsSome (fin.get rows p.0))
      next_places o e = used_places rows o (index_in cells n.next) e next_is_used

      pub prev_places : (o : Option Place) → option_map (λ p. p.0) o ≡ index_in cells n.prev → IfSome o (λ p. IsSome (fin.get rows p.0))
      prev_places o e = used_places rows o (index_in cells n.prev) e prev_is_used
