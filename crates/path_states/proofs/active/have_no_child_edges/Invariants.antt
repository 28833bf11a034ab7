use Rattle.std.proofs.Common.{ℕ, take}
use Rattle.path_states.specs.Lists.{From}
use Rattle.path_states.specs.Active.{Tells, child_edges_of}
use Rattle.path_states.proofs.active.have_no_child_edges.Given as goal

abbrev pub invariant-loop-number : goal.invariant-loop-number
invariant-loop-number l = (r : ℕ) → From (take l.number-index l.active) (Tells child_edges_of l.tree) r → ⊥
