use Rattle.std.proofs.Common.{◌≡◌}
use Rattle.std.specs.Prelude.{IfSome, option_map}
use Rattle.buf_tree.specs.Shape.{cells}
use Rattle.buf_tree.specs.Walk.{high_at}
use Rattle.cond_memo.proofs.Descending.{Downward}
use Rattle.cond_memo.proofs.reaching.row_below.Given as goal

abbrev pub invariant-down : goal.invariant-down
invariant-down g l = record {
  store : IfSome l.at (λ a. a.store.now ≡ l.fn.row.store.now);
  down : Downward (cells (g.N.NodeStore.rows l.fn.row.store.now)) l.fn.row.place.0 l.serial.0 (option_map (λ a. a.place.0) l.at);
}

abbrev pub decreases-down : goal.decreases-down
decreases-down g l = high_at (cells (g.N.NodeStore.rows l.fn.row.store.now)) (option_map (λ a. a.place.0) l.at)
