use Rattle.std.proofs.Common.{take}
use Rattle.path_states.specs.Lists.{From, Gains, Climbs}
use Rattle.matcher.specs.Frames.{IsRoleOf}
use Rattle.matcher.proofs.roles.put_first.Given as goal

abbrev pub invariant-loop-one : goal.invariant-loop-one
invariant-loop-one l = Gains l.fn.roles.items l.roles.items (From (take l.one-index l.found) IsRoleOf) × (Climbs l.fn.roles.items → Climbs l.roles.items)
