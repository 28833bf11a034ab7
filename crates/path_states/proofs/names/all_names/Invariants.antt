use Rattle.std.proofs.Common.{ℕ, List, take}
use Rattle.gcx_model.specs.Members.{In}
use Rattle.path_states.specs.Lists.{From}
use Rattle.path_states.specs.Names.{AsksFor}
use Rattle.path_states.proofs.names.all_names.Given as goal

abbrev pub invariant-loop-state : goal.invariant-loop-state
invariant-loop-state l = (name : List ℕ) → From (take l.state-index l.tree) AsksFor name → In name l.names.items
