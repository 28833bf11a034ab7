use Rattle.std.proofs.Common.{◌≡◌, ℕ, Some}
use Rattle.std.specs.Prelude.{option_map, IsSome}
use Rattle.std.specs.FinMap as map
use Rattle.buf_tree.specs.Shape.{cells}
use Rattle.buf_tree.specs.Walk.{high_at}
use Rattle.buf_tree.proofs.Entries.{Counted}
use Rattle.buf_tree.proofs.Passing.{AllWithin}
use Rattle.buf_tree.proofs.buffer.count_entries.Given as goal

abbrev pub invariant-rows : goal.invariant-rows
invariant-rows g l = record {
  used : (p : ℕ) → option_map (λ q. q.0) l.at ≡ Some p → IsSome (map.get (g.N.NodeStore.rows l.nodes) p);
  within : AllWithin (cells (g.N.NodeStore.rows l.nodes)) l.fn.root.0 (option_map (λ q. q.0) l.at);
  counted : Counted (cells (g.N.NodeStore.rows l.nodes)) (option_map (λ q. q.0) l.at) l.entries;
}

abbrev pub decreases-rows : goal.decreases-rows
decreases-rows g l = high_at (cells (g.N.NodeStore.rows l.nodes)) (option_map (λ q. q.0) l.at)
