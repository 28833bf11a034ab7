use Rattle.std.proofs.Common.{take}
use Rattle.path_states.specs.Branches.{AreBranches}
use Rattle.path_states.specs.Names.{AreOrdered}
use Rattle.path_states.proofs.branches.branches_of.Given as goal

abbrev pub invariant-loop-state : goal.invariant-loop-state
invariant-loop-state l = AreOrdered l.names → AreBranches l.tree l.names (take l.state-index l.tree) l.all.items
