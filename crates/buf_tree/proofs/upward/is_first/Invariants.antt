use Rattle.std.proofs.Common.{◌≡◌, ◌≤◌, ℕ, Some, vec_capacity}
use Rattle.std.specs.Prelude.{option_map, IsSome}
use Rattle.std.specs.FinMap as map
use Rattle.gcx_model.specs.Members.{In}
use Rattle.gcx_model.specs.Tree.{Node, above}
use Rattle.buf_tree.specs.Shape.{cells}
use Rattle.buf_tree.specs.Walk.{high_at}
use Rattle.buf_tree.specs.Ways.{NodeOf}
use Rattle.buf_tree.proofs.Passing.{Passing, AllWithin}
use Rattle.buf_tree.proofs.upward.is_first.Given as goal

abbrev pub invariant-rows : goal.invariant-rows
invariant-rows g l = record {
  used : (p : ℕ) → option_map (λ q. q.0) l.at ≡ Some p → IsSome (map.get (g.N.NodeStore.rows l.nodes) p);
  room : vec_capacity l.fn.flags ≤ vec_capacity l.flags;
  within : AllWithin (cells (g.N.NodeStore.rows l.nodes)) l.fn.from.0 (option_map (λ q. q.0) l.at);
  walk : (a n : Node) → NodeOf (cells (g.N.NodeStore.rows l.nodes)) l.fn.from.0 a → NodeOf (cells (g.N.NodeStore.rows l.nodes)) l.fn.place.0 n → In a (above n) → Passing (cells (g.N.NodeStore.rows l.nodes)) a n l.steps (option_map (λ q. q.0) l.at);
}

abbrev pub decreases-rows : goal.decreases-rows
decreases-rows g l = high_at (cells (g.N.NodeStore.rows l.nodes)) (option_map (λ q. q.0) l.at)
