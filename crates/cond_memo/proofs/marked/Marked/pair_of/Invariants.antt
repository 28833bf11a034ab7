use Rattle.std.proofs.Common.{◌≤◌, ◌-◌, vec_len}
use Rattle.cond_eval.proofs.Kept.{NoneBelow}
use Rattle.cond_memo.specs.Pairs.{paths, paths_of}
use Rattle.cond_memo.proofs.marked.Marked.pair_of.Given as goal

abbrev pub invariant-pairs : goal.invariant-pairs
invariant-pairs l = record {
  low : l.index ≤ vec_len l.self.pairs;
  none : NoneBelow paths_of l.self.pairs.items l.index (paths l.left.0 l.left.1.now l.rel l.right.0 l.right.1.now);
}

abbrev pub decreases-pairs : goal.decreases-pairs
decreases-pairs l = vec_len l.self.pairs - l.index
