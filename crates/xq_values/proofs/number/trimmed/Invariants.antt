use Rattle.std.proofs.Common.{◌≡◌, length}
use Rattle.gcx_model.specs.Values.{without_back}
use Rattle.xq_values.proofs.number.trimmed.Given as goal

abbrev pub invariant-loop-last : goal.invariant-loop-last
invariant-loop-last l = without_back l.rest ≡ without_back l.initial.rest

abbrev pub decreases-loop-last : goal.decreases-loop-last
decreases-loop-last l = length l.rest
