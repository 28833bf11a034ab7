use Rattle.pull_eval.specs.Guards.{left_path, right_path}
use Rattle.pull_eval.proofs.Guarding.{GuardedTo}
use Rattle.pull_eval.proofs.guard.+guarded.Given as goal

abbrev pub invariant-is_guarded-loop-item : goal.invariant-is_guarded-loop-item
invariant-is_guarded-loop-item l = GuardedTo (left_path l.guard) (right_path l.guard) l.body l.item-index
