use Rattle.std.proofs.Common.{◌≡◌}
use Rattle.std.specs.Prelude.{option_map}
use Rattle.gcx_model.specs.Members.{In}
use Rattle.buf_tree.specs.Shape.{Cell, num, cells}
use Rattle.buf_tree.specs.Walk.{On, high_at}
use Rattle.buf_tree.specs.Match.{IsChild}
use Rattle.buf_tree.proofs.search.next_child.Given as goal

abbrev pub invariant-on : goal.invariant-on
invariant-on g l = (c h : Cell) → In c (cells (g.N.NodeStore.rows l.nodes)) → In h (cells (g.N.NodeStore.rows l.nodes)) → c.place ≡ l.fn.top.0 → h.place ≡ l.fn.from.0 → On (cells (g.N.NodeStore.rows l.nodes)) (IsChild c) l.step.test (num h) (option_map (λ p. p.0) l.at)

abbrev pub decreases-on : goal.decreases-on
decreases-on g l = high_at (cells (g.N.NodeStore.rows l.nodes)) (option_map (λ p. p.0) l.at)
