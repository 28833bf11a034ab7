use Rattle.std.proofs.Common.{[], take}
use Rattle.path_states.specs.Active.{Tells}
use Rattle.path_states.specs.Lists.{From, Gains}
use Rattle.path_states.specs.State.{context_roles}
use Rattle.path_states.proofs.outputs.contexts_with.Given as goal

abbrev pub invariant-loop-number : goal.invariant-loop-number
invariant-loop-number l = Gains [] l.contexts.items (From (take l.number-index l.active) (Tells context_roles l.tree))
