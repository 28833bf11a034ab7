use Rattle.std.proofs.Common.{[], ◌+◌, ◌≤◌, length, arith, sym, ap, subst, ◌∙◌}
use Rattle.node_store.specs.Links.{rows_of}
use Rattle.raw_nodes.specs.Nodes.{cells_of, IsStore}
use Rattle.raw_nodes.proofs.Stored.{store_empty, no_rows}
use Rattle.raw_nodes.proofs.rows.RawRows.new.Goals as goal

pub returns-clause-raw : goal.returns-clause-raw
returns-clause-raw g c =
    record {
      heap = c.new.ensures.heap;
      store = subst (λ cells. IsStore cells c.none-nothing.result c.none-nothing.result 0 0) (sym c.new.ensures.cells)
          (subst (λ link. IsStore [] link link 0 0) (sym c.none-nothing.ensures) store_empty);
      spare = subst (λ cells. length cells ≤ 0 + 255) (sym c.new.ensures.cells) (omega arith);
    }

pub returns-clause-empty : goal.returns-clause-empty
returns-clause-empty g c = ap (λ cells. rows_of (cells_of cells)) c.new.ensures.cells ∙ no_rows
