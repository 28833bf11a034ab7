use Rattle.std.proofs.Common.{◌≡◌, ℕ, true, take}
use Rattle.std.specs.Prelude.{◌↔◌}
use Rattle.std.specs.FinSet.{contains}
use Rattle.gcx_model.specs.Members.{In}
use Rattle.path_states.proofs.outputs.set_of.Given as goal

abbrev pub invariant-loop-number : goal.invariant-loop-number
invariant-loop-number l = (r : ℕ) → contains l.roles r ≡ true ↔ In r (take l.number-index l.numbers)
