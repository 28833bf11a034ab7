use Rattle.std.proofs.Common.{take}
use Rattle.path_states.specs.Branches.{HaveBranches}
use Rattle.path_states.specs.Names.{AreOrdered}
use Rattle.path_states.proofs.branches.all_branches.Given as goal

abbrev pub invariant-loop-number : goal.invariant-loop-number
invariant-loop-number l = AreOrdered l.names → HaveBranches l.tree l.names (take l.number-index l.numbers) l.branches.items
