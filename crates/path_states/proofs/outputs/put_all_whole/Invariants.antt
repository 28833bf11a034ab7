use Rattle.std.proofs.Common.{take}
use Rattle.path_states.specs.Active.{Tells}
use Rattle.path_states.specs.Lists.{Climbs, From, Gains}
use Rattle.path_states.specs.State.{whole_roles}
use Rattle.path_states.proofs.outputs.put_all_whole.Given as goal

abbrev pub invariant-loop-number : goal.invariant-loop-number
invariant-loop-number l = Gains l.fn.numbers.items l.numbers.items (From (take l.number-index l.active) (Tells whole_roles l.tree)) × (Climbs l.fn.numbers.items → Climbs l.numbers.items)
