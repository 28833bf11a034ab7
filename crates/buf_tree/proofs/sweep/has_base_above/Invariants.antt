use Rattle.std.proofs.Common.{◌≡◌, ℕ, Some}
use Rattle.std.specs.Prelude.{option_map, IsSome}
use Rattle.std.specs.FinMap as map
use Rattle.gcx_model.specs.Members.{In}
use Rattle.buf_tree.specs.Shape.{Cell, cells}
use Rattle.buf_tree.specs.Walk.{low_at}
use Rattle.buf_tree.proofs.OtherBases.{Upwards}
use Rattle.buf_tree.proofs.sweep.has_base_above.Given as goal

abbrev pub invariant-up : goal.invariant-up
invariant-up g l = record {
  used : (p : ℕ) → option_map (λ q. q.0) l.at ≡ Some p → IsSome (map.get (g.N.NodeStore.rows l.nodes) p);
  walk : (c : Cell) → In c (cells (g.N.NodeStore.rows l.nodes)) → c.place ≡ l.fn.place.0 → Upwards (cells (g.N.NodeStore.rows l.nodes)) l.off c (option_map (λ q. q.0) l.at);
}

abbrev pub decreases-up : goal.decreases-up
decreases-up g l = low_at (cells (g.N.NodeStore.rows l.nodes)) (option_map (λ q. q.0) l.at)
