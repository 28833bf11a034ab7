use Rattle.std.proofs.Common.{take}
use Rattle.path_states.specs.Active.{Tells}
use Rattle.path_states.specs.Lists.{Climbs, From, Gains}
use Rattle.path_states.specs.State.{own_roles}
use Rattle.path_states.proofs.outputs.put_own.Given as goal

abbrev pub invariant-loop-number : goal.invariant-loop-number
invariant-loop-number l = Gains l.fn.roles.items l.roles.items (From (take l.number-index l.active) (Tells own_roles l.tree)) × (Climbs l.fn.roles.items → Climbs l.roles.items)
