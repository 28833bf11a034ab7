use Rattle.std.proofs.Common.{◌≡◌}
use Rattle.std.specs.Prelude.{option_map}
use Rattle.gcx_model.specs.Members.{In}
use Rattle.buf_tree.specs.Shape.{Cell, cells}
use Rattle.buf_tree.specs.Walk.{low_at}
use Rattle.buf_tree.proofs.OtherBases.{Backwards}
use Rattle.buf_tree.proofs.sweep.has_base_below.Given as goal

abbrev pub invariant-back : goal.invariant-back
invariant-back g l = (c : Cell) → In c (cells (g.N.NodeStore.rows l.nodes)) → c.place ≡ l.fn.place.0 → Backwards (cells (g.N.NodeStore.rows l.nodes)) l.off c (option_map (λ q. q.0) l.at)

abbrev pub decreases-back : goal.decreases-back
decreases-back g l = low_at (cells (g.N.NodeStore.rows l.nodes)) (option_map (λ q. q.0) l.at)
