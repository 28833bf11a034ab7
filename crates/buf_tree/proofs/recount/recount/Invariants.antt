use Rattle.std.proofs.Common.{◌≡◌, ◌≤◌, ℕ, Some, vec_capacity}
use Rattle.std.specs.Prelude.{option_map}
use Rattle.buf_tree.specs.Recount.{TellsParent}
use Rattle.buf_tree.specs.Shape.{cells, AtPlace}
use Rattle.buf_tree.specs.Walk.{high_at}
use Rattle.buf_tree.proofs.Recounts.{Recounts}
use Rattle.buf_tree.proofs.recount.recount.Given as goal

abbrev pub invariant-rows : goal.invariant-rows
invariant-rows g l = record {
  recount : Recounts (Some l.spread) (g.N.NodeStore.rows l.fn.nodes) (g.N.NodeStore.rows l.nodes) l.top l.others l.fn.place.0 (option_map (λ p. p.0) l.at) l.spans.had l.spans.has l.lost;
  up : (q : ℕ) → option_map (λ p. p.0) l.at ≡ Some q → AtPlace (cells (g.N.NodeStore.rows l.fn.nodes)) q (TellsParent l.parent);
  tails : vec_capacity l.fn.trail.tails ≤ vec_capacity l.trail.tails;
  rels : vec_capacity l.fn.trail.rels ≤ vec_capacity l.trail.rels;
  again : vec_capacity l.fn.trail.again ≤ vec_capacity l.trail.again;
  most : g.N.NodeStore.most_held l.nodes ≡ g.N.NodeStore.most_held l.fn.nodes;
  loans : g.N.NodeStore.loans l.nodes ≡ g.N.NodeStore.loans l.fn.nodes;
}

abbrev pub decreases-rows : goal.decreases-rows
decreases-rows g l = high_at (cells (g.N.NodeStore.rows l.fn.nodes)) (option_map (λ p. p.0) l.at)
