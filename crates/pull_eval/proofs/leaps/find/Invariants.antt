use Rattle.std.proofs.Common.{◌-◌, length}
use Rattle.cond_eval.proofs.Kept.{NoneBelow}
use Rattle.pull_eval.specs.Turns.{loop_var}
use Rattle.pull_eval.proofs.leaps.find.Given as goal

abbrev pub invariant-turns : goal.invariant-turns
invariant-turns l = NoneBelow loop_var l.all l.index l.var

abbrev pub decreases-turns : goal.decreases-turns
decreases-turns l = length l.all - l.index
