use Rattle.std.proofs.Common.{◌≡◌, length}
use Rattle.gcx_words.specs.Pairs.{differ_from}
use Rattle.gcx_words.proofs.pairs.differs.Given as goal

abbrev pub invariant-outs : goal.invariant-outs
invariant-outs l = differ_from l.rest l.out ≡ differ_from l.pairs l.out

abbrev pub decreases-outs : goal.decreases-outs
decreases-outs l = length l.rest
