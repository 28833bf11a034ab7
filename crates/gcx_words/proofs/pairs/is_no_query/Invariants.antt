use Rattle.std.proofs.Common.{◌≡◌, length}
use Rattle.gcx_words.specs.Pairs.{is_no_query}
use Rattle.gcx_words.proofs.pairs.is_no_query.Given as goal

abbrev pub invariant-queries : goal.invariant-queries
invariant-queries l = is_no_query l.rest l.out ≡ is_no_query l.pairs l.out

abbrev pub decreases-queries : goal.decreases-queries
decreases-queries l = length l.rest
