use Rattle.std.proofs.Common.{◌≡◌, take}
use Rattle.gcx_model.proofs.query.Clauses.copy.Given as goal

abbrev pub invariant-loop-clause : goal.invariant-loop-clause
invariant-loop-clause l = l.copied ≡ take l.clause-index l.clause-items
