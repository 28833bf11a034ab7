use Rattle.std.proofs.Common.{ℕ, take}
use Rattle.path_states.specs.Active.{Tells}
use Rattle.path_states.specs.Lists.{From}
use Rattle.path_states.specs.State.{first_roles}
use Rattle.path_states.proofs.outputs.have_firsts.Given as goal

abbrev pub invariant-loop-number : goal.invariant-loop-number
invariant-loop-number l = (r : ℕ) → From (take l.number-index l.active) (Tells first_roles l.tree) r → ⊥
