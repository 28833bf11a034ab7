use Rattle.std.proofs.Common.{◌≡◌, length}
use Rattle.gcx_words.specs.Pairs.{each_apart}
use Rattle.gcx_words.proofs.pairs.are_apart.Given as goal

abbrev pub invariant-outs : goal.invariant-outs
invariant-outs l = each_apart l.document l.pairs l.rest ≡ each_apart l.document l.pairs l.pairs

abbrev pub decreases-outs : goal.decreases-outs
decreases-outs l = length l.rest
