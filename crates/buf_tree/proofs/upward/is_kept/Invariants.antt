use Rattle.std.proofs.Common.{◌≡◌, ◌≤◌, ◌+◌, ℕ, Some, length, vec_capacity}
use Rattle.std.specs.Prelude.{option_map, IsSome}
use Rattle.std.specs.FinMap as map
use Rattle.gcx_model.specs.Tree.{Tree, Node}
use Rattle.gcx_model.specs.ItemView.{role_kind}
use Rattle.buf_tree.specs.Shape.{cells}
use Rattle.buf_tree.specs.Walk.{low_at}
use Rattle.buf_tree.specs.Ways.{NodeOf, TreeOf, tail_steps}
use Rattle.buf_tree.proofs.Kept.{Keeping}
use Rattle.buf_tree.proofs.upward.is_kept.Given as goal

abbrev pub invariant-up : goal.invariant-up
invariant-up g l = record {
  used : (p : ℕ) → option_map (λ q. q.0) l.at ≡ Some p → IsSome (map.get (g.N.NodeStore.rows l.nodes) p);
  tails_count : length l.trail.tails.items ≡ length (tail_steps (role_kind l.off.kind) l.off.tail) + 1;
  rels_count : length l.trail.rels.items ≡ length l.off.rel + 1;
  tails : vec_capacity l.fn.trail.tails ≤ vec_capacity l.trail.tails;
  rels : vec_capacity l.fn.trail.rels ≤ vec_capacity l.trail.rels;
  again : vec_capacity l.fn.trail.again ≤ vec_capacity l.trail.again;
  walk : (T : Tree) (n : Node) → TreeOf (cells (g.N.NodeStore.rows l.nodes)) T → NodeOf (cells (g.N.NodeStore.rows l.nodes)) l.fn.place.0 n → Keeping (cells (g.N.NodeStore.rows l.nodes)) T l.off n (option_map (λ q. q.0) l.at) l.trail.tails.items l.trail.rels.items;
}

abbrev pub decreases-up : goal.decreases-up
decreases-up g l = low_at (cells (g.N.NodeStore.rows l.nodes)) (option_map (λ q. q.0) l.at)
