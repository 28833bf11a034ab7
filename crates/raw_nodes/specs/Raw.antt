-- What a contract sees of a raw store. Public clauses speak of `Raw` and `Spares`; the rest follows the code, and only the
-- store's model speaks of it. All definitions here are this project's.
use Rattle.std.specs.Prelude.{◌≡◌, ◌<◌, ◌≤◌, ◌+◌, ℕ, length, Option, refl}
use Rattle.std.specs.Coded.{Coded, code_by, coded×, coded_ℕ, coded_option}
use Rattle.std.specs.FinMap as fin
use Rattle.node_store.specs.Rows.{Rows, entry_code}
use Rattle.node_store.specs.Links.{rows_of}
use Rattle.raw_nodes.specs.Nodes.{index_in, cells_of, IsStore}
use Rattle.raw_nodes.specs.Heaps.{IsHeap}
use Rattle.raw_nodes.specs.declared.rows.RawRows.{RawRows}

-- the rows, the root, the greatest number of rows so far, and the number of cells
pub record Raw (T : Type 0) : Type 0 where
  pub rows : Rows T
  pub root : Option ℕ
  pub most : ℕ
  pub cells : ℕ

abbrev pub raw_code : {T : Type 0} → Coded T → Coded (Raw T)
raw_code {T} code =
    code_by
    (Rows T × (Option ℕ × (ℕ × ℕ)))
    (coded× (fin.code coded_ℕ (entry_code code)) (coded× (coded_option coded_ℕ) (coded× coded_ℕ coded_ℕ)))
    (λ s. (s.rows, (s.root, (s.most, s.cells))))
    (λ p. record { rows = p.0; root = p.1.0; most = p.1.1.0; cells = p.1.1.1 })
    (λ _. refl)

module _ {T : Type 0} where
  abbrev pub raw_of : RawRows T → Raw T
  raw_of r =
      record {
        rows = rows_of (cells_of r.heap.arena.cells);
        root = index_in r.heap.arena.cells r.root;
        most = r.most;
        cells = length r.heap.arena.cells;
      }

  -- what holds of a raw store's fields
  pub record IsRaw (r : RawRows T) : Type 0 where
    pub heap : IsHeap r.heap
    pub store : IsStore r.heap.arena.cells r.free r.root r.len r.most
    pub spare : length r.heap.arena.cells ≤ r.most + 255

  -- where a dead cell is left, the number of cells stays, and else a block is made
  abbrev pub Spares : Raw T → ℕ → Type 0
  Spares old cells = (fin.len old.rows < old.cells → cells ≡ old.cells) × (fin.len old.rows ≡ old.cells → cells ≡ old.cells + 256)
