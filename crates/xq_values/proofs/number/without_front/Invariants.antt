use Rattle.std.proofs.Common.{◌≡◌, length}
use Rattle.gcx_model.specs.Values.{without_front}
use Rattle.xq_values.proofs.number.without_front.Given as goal

abbrev pub invariant-loop-rest : goal.invariant-loop-rest
invariant-loop-rest l = without_front l.rest ≡ without_front l.initial.rest

abbrev pub decreases-loop-rest : goal.decreases-loop-rest
decreases-loop-rest l = length l.rest
