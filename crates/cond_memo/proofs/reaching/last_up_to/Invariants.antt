use Rattle.std.proofs.Common.{◌≡◌}
use Rattle.std.specs.Prelude.{IfSome, option_map}
use Rattle.gcx_model.specs.Members.{In}
use Rattle.buf_tree.specs.Shape.{Cell, cells}
use Rattle.buf_tree.specs.Walk.{low_at}
use Rattle.cond_memo.proofs.Descending.{Back}
use Rattle.cond_memo.proofs.reaching.last_up_to.Given as goal

abbrev pub invariant-back : goal.invariant-back
invariant-back g l = record {
  store : IfSome l.at (λ a. a.store.now ≡ l.fn.row.store.now);
  back : (c : Cell) → In c (cells (g.N.NodeStore.rows l.fn.row.store.now)) → c.place ≡ l.fn.row.place.0 → Back (cells (g.N.NodeStore.rows l.fn.row.store.now)) l.serial.0 c (option_map (λ a. a.place.0) l.at);
}

abbrev pub decreases-back : goal.decreases-back
decreases-back g l = low_at (cells (g.N.NodeStore.rows l.fn.row.store.now)) (option_map (λ a. a.place.0) l.at)
