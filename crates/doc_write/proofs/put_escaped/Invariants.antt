use Rattle.std.proofs.Common.{◌≡◌, ◌≤◌, ◌-◌, take, length, ◌++◌}
use Rattle.gcx_model.specs.Written.{escaped}
use Rattle.doc_write.proofs.put_escaped.Given as goal

abbrev pub invariant-loop-at : goal.invariant-loop-at
invariant-loop-at l = (l.at ≤ length l.bytes) × (l.out.items ≡ l.initial.out.items ++ escaped (take l.at l.bytes))

abbrev pub decreases-loop-at : goal.decreases-loop-at
decreases-loop-at l = length l.bytes - l.at
