-- The cells that a slab's slots hold. This follows the code: private functions and the model of `SlabNodes` speak of it.
use Rattle.std.specs.Prelude.{ℕ, Option, map, option_map}
use Rattle.slab.specs.Slab.{Slab, get as slab_get}
use Rattle.node_store.specs.Links.{Linked, Cells}
use Rattle.node_store.specs.declared.slab_nodes.Cell.{Cell}
use Rattle.node_store.specs.declared.store.Place.{Place}

abbrev pub index_of : Option Place → Option ℕ
index_of place = option_map (λ p. p.0) place

module _ {T : Type 0} where
  abbrev pub linked_of : Cell T → Linked T
  linked_of c =
      record {
        parent = index_of c.parent;
        first = index_of c.first;
        last = index_of c.last;
        prev = index_of c.prev;
        next = index_of c.next;
        payload = c.payload;
      }

  abbrev pub cells_of : Slab (Cell T) → Cells T
  cells_of s = map (option_map linked_of) s.slots

  -- the cell at a place
  abbrev pub links : Slab (Cell T) → ℕ → Option (Linked T)
  links s p = option_map linked_of (slab_get s p)
