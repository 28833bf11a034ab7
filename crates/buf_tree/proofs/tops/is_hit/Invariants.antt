use Rattle.std.proofs.Common.{◌≡◌, ◌≤◌, ◌+◌, ℕ, Some, length, vec_capacity}
use Rattle.std.specs.Prelude.{option_map, IsSome}
use Rattle.std.specs.FinMap as map
use Rattle.buf_tree.specs.Shape.{cells}
use Rattle.buf_tree.specs.Tops.{ForNew}
use Rattle.buf_tree.specs.Walk.{low_at}
use Rattle.buf_tree.proofs.Hitting.{Hitting}
use Rattle.buf_tree.proofs.tops.is_hit.Given as goal

abbrev pub invariant-up : goal.invariant-up
invariant-up g l = record {
  used : (q : ℕ) → option_map (λ o. o.0) l.at ≡ Some q → IsSome (map.get (g.N.NodeStore.rows l.nodes) q);
  count : length l.flags.items ≡ length l.top.rel + 1;
  room : vec_capacity l.fn.flags ≤ vec_capacity l.flags;
  walk : ForNew (cells (g.N.NodeStore.rows l.nodes)) l.fn.parent.0 l.kind (λ p n. Hitting (cells (g.N.NodeStore.rows l.nodes)) l.top p n (option_map (λ o. o.0) l.at) l.flags.items);
}

abbrev pub decreases-up : goal.decreases-up
decreases-up g l = low_at (cells (g.N.NodeStore.rows l.nodes)) (option_map (λ o. o.0) l.at)
