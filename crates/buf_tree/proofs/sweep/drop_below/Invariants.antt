use Rattle.std.proofs.Common.{◌≡◌, ◌+◌, ◌≤◌, length, vec_len, vec_capacity}
use Rattle.std.specs.Prelude.{option_map}
use Rattle.buf_tree.specs.Shape.{cells}
use Rattle.buf_tree.specs.Rows.{serials}
use Rattle.buf_tree.specs.Walk.{low_at}
use Rattle.buf_tree.proofs.Dropping.{Drops}
use Rattle.buf_tree.proofs.sweep.drop_below.Given as goal

abbrev pub invariant-back : goal.invariant-back
invariant-back g l = record {
  drops : Drops (g.N.NodeStore.rows l.fn.nodes) (g.N.NodeStore.rows l.nodes) l.fn.place.0 (option_map (λ p. p.0) l.at) (serials l.fn.gone.items) (serials l.gone.items);
  count : vec_len l.gone + length (cells (g.N.NodeStore.rows l.nodes)) ≡ vec_len l.fn.gone + length (cells (g.N.NodeStore.rows l.fn.nodes));
  capacity : vec_capacity l.fn.gone ≤ vec_capacity l.gone;
  most : g.N.NodeStore.most_held l.nodes ≡ g.N.NodeStore.most_held l.fn.nodes;
  loans : g.N.NodeStore.loans l.nodes ≡ g.N.NodeStore.loans l.fn.nodes;
}

abbrev pub decreases-back : goal.decreases-back
decreases-back g l = low_at (cells (g.N.NodeStore.rows l.nodes)) (option_map (λ p. p.0) l.at)
