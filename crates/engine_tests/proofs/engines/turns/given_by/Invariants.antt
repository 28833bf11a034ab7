use Rattle.std.proofs.Common.{ℕ, Bool, List, length}
use Rattle.gcx_base.specs.Limits.{full_limits}
use Rattle.doc_reader.specs.Standing.{Stands, waiting}
use Rattle.engine_tests.proofs.engines.turns.given_by.Given as goal

abbrev pub invariant-given : goal.invariant-given
invariant-given l = (b : List ℕ) × (ended : Bool) × Stands l.reader full_limits b ended l.tokens.items

abbrev pub decreases-given : goal.decreases-given
decreases-given l = length (waiting l.reader)
