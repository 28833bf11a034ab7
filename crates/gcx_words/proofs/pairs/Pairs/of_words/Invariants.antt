use Rattle.std.proofs.Common.{◌≡◌, ◌≤◌, ◌+◌, ◌-◌, ◌++◌, drop, length, map}
use Rattle.gcx_words.specs.Pairs.{paired}
use Rattle.gcx_words.proofs.pairs.Pairs.of_words.Given as goal

abbrev pub invariant-pairs : goal.invariant-pairs
invariant-pairs l = record {
  built : l.members.items ++ paired (map (λ w. w.now) (drop l.at l.words)) ≡ paired (map (λ w. w.now) l.words);
  within : l.at ≤ length l.words + 1;
}

abbrev pub decreases-pairs : goal.decreases-pairs
decreases-pairs l = length l.words + 1 - l.at
