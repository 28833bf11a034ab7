use Rattle.std.proofs.Common.{◌≡◌, ◌≤◌, ◌-◌, ℕ, Bool, length, vec_capacity}
use Rattle.std.specs.FinSet as set
use Rattle.buf_tree.specs.Shape.{cells}
use Rattle.buf_tree.specs.Tops.{ForNew, StaysAt}
use Rattle.buf_tree.proofs.KeepingTops.{upto}
use Rattle.buf_tree.proofs.tops.keep_tops.Given as goal

abbrev pub invariant-each : goal.invariant-each
invariant-each g l = record {
  held : ForNew (cells (g.N.NodeStore.rows l.nodes)) l.parent.0 l.kind (λ p n. (stays : ℕ → Bool) → StaysAt (cells (g.N.NodeStore.rows l.nodes)) l.tops l.fn.roles.held p n stays → l.roles.held ≡ set.retain l.fn.roles.held (upto l.i stays));
  signed : l.roles.signed ≡ l.fn.roles.signed;
  room : vec_capacity l.fn.flags ≤ vec_capacity l.flags;
}

abbrev pub decreases-each : goal.decreases-each
decreases-each g l = length l.tops - l.i
