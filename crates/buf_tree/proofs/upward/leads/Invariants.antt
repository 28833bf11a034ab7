use Rattle.std.proofs.Common.{◌≡◌, ◌≤◌, ◌+◌, ℕ, Some, length, vec_capacity}
use Rattle.std.specs.Prelude.{option_map, IsSome}
use Rattle.std.specs.FinMap as map
use Rattle.gcx_model.specs.Tree.{Node}
use Rattle.buf_tree.specs.Shape.{cells}
use Rattle.buf_tree.specs.Walk.{low_at}
use Rattle.buf_tree.specs.Ways.{NodeOf}
use Rattle.buf_tree.proofs.Climbing.{Leading}
use Rattle.buf_tree.proofs.upward.leads.Given as goal

abbrev pub invariant-up : goal.invariant-up
invariant-up g l = record {
  used : (p : ℕ) → option_map (λ q. q.0) l.at ≡ Some p → IsSome (map.get (g.N.NodeStore.rows l.nodes) p);
  count : length l.flags.items ≡ length l.steps + 1;
  room : vec_capacity l.fn.flags ≤ vec_capacity l.flags;
  walk : (a n : Node) → NodeOf (cells (g.N.NodeStore.rows l.nodes)) l.fn.from.0 a → NodeOf (cells (g.N.NodeStore.rows l.nodes)) l.fn.place.0 n → Leading (cells (g.N.NodeStore.rows l.nodes)) a n l.steps (option_map (λ q. q.0) l.at) l.flags.items;
}

abbrev pub decreases-up : goal.decreases-up
decreases-up g l = low_at (cells (g.N.NodeStore.rows l.nodes)) (option_map (λ q. q.0) l.at)
