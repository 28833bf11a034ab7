use Rattle.std.proofs.Common.{◌≤◌}
use Rattle.doc_parts.proofs.span.boundary_within.Given as goal

abbrev pub invariant-loop-end : goal.invariant-loop-end
invariant-loop-end l = l.end ≤ l.most

abbrev pub decreases-loop-end : goal.decreases-loop-end
decreases-loop-end l = l.end
