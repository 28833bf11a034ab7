use Rattle.std.proofs.Common.{take}
use Rattle.path_states.specs.Active.{Waits}
use Rattle.path_states.specs.Lists.{From, Gains}
use Rattle.path_states.proofs.outputs.put_all_pending.Given as goal

abbrev pub invariant-loop-number : goal.invariant-loop-number
invariant-loop-number l = Gains l.fn.pending.items l.pending.items (From (take l.number-index l.active) (Waits l.tree))
