use Rattle.std.proofs.Common.{◌≡◌, ℕ, Some}
use Rattle.std.specs.Prelude.{option_map, IsSome}
use Rattle.std.specs.FinMap as map
use Rattle.std.specs.FinSet as set
use Rattle.gcx_model.specs.Members.{In}
use Rattle.buf_tree.specs.Row.{Row}
use Rattle.buf_tree.specs.Shape.{Cell, cells}
use Rattle.buf_tree.specs.Walk.{low_at}
use Rattle.buf_tree.proofs.Above.{Ascent}
use Rattle.buf_tree.proofs.recount.kept_above.Given as goal

abbrev pub invariant-up : goal.invariant-up
invariant-up g l = record {
  used : (p : ℕ) → option_map (λ q. q.0) l.at ≡ Some p → IsSome (map.get (g.N.NodeStore.rows l.nodes) p);
  walk : (c : Cell) → In c (cells (g.N.NodeStore.rows l.nodes)) → c.place ≡ l.fn.place.0 → Ascent (cells (g.N.NodeStore.rows l.nodes)) (λ (r : Row). set.contains r.roles l.role.0) c (option_map (λ q. q.0) l.at);
}

abbrev pub decreases-up : goal.decreases-up
decreases-up g l = low_at (cells (g.N.NodeStore.rows l.nodes)) (option_map (λ q. q.0) l.at)
