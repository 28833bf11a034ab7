use Rattle.std.proofs.Common.{◌-◌, ◌≤◌, length}
use Rattle.path_states.specs.Names.{AreOrdered}
use Rattle.path_states.proofs.Naming.{Between}
use Rattle.path_states.proofs.names.number_in.Given as goal

abbrev pub invariant-halves : goal.invariant-halves
invariant-halves l = (l.high ≤ length l.names) × (AreOrdered l.names → Between l.names l.name l.low l.high)

abbrev pub decreases-halves : goal.decreases-halves
decreases-halves l = l.high - l.low
