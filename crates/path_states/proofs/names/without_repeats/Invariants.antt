use Rattle.std.proofs.Common.{take}
use Rattle.path_states.specs.Names.{AreOnce, AreOrdered}
use Rattle.path_states.proofs.names.without_repeats.Given as goal

abbrev pub invariant-loop-name : goal.invariant-loop-name
invariant-loop-name l = AreOrdered l.names → AreOnce (take l.name-index l.names) l.once.items
