use Rattle.std.proofs.Common.{ℕ, ◌≤◌, ◌-◌, List, length, drop}
use Rattle.xq_lex.specs.Gap.{HasGap}
use Rattle.xq_lex.proofs.gap.gap_len.Given as goal

abbrev pub invariant-loop-more : goal.invariant-loop-more
invariant-loop-more l = (l.len ≤ length l.text) × ((rest : List ℕ) → HasGap (drop l.len l.text) rest → HasGap l.text rest)

abbrev pub decreases-loop-more : goal.decreases-loop-more
decreases-loop-more l = length l.text - l.len
