use Rattle.std.proofs.Common.{◌≡◌}
use Rattle.std.specs.Prelude.{option_map}
use Rattle.gcx_model.specs.Members.{In}
use Rattle.buf_tree.specs.Shape.{Cell, cells}
use Rattle.buf_tree.specs.Walk.{Back, low_at}
use Rattle.buf_tree.specs.Match.{IsChild}
use Rattle.buf_tree.proofs.search.first_child.Given as goal

abbrev pub invariant-back : goal.invariant-back
invariant-back g l = (c : Cell) → In c (cells (g.N.NodeStore.rows l.nodes)) → c.place ≡ l.fn.top.0 → Back (cells (g.N.NodeStore.rows l.nodes)) (IsChild c) l.step.test l.bound (option_map (λ p. p.0) l.at) (option_map (λ p. p.0) l.found)

abbrev pub decreases-back : goal.decreases-back
decreases-back g l = low_at (cells (g.N.NodeStore.rows l.nodes)) (option_map (λ p. p.0) l.at)
